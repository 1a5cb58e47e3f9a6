use Rattle.std.proofs.Common.{◌≡◌, ◌≢◌, ℕ, zero, suc, ◌+◌, ◌-◌, ◌*◌, ◌%◌, ◌<◌, ◌≤◌, ◌==◌, inl, inr, Bool, cond, List, [], ◌∷◌, ◌++◌, Option, Some, None, All, filter, length, map, take, drop, replicate, get_or, get_or-set_same, refl, sym, ap, ap₂, ◌∙◌, arith, append_assoc, length-append, length-drop, length-take, take-add, eq-eqb, ne_eqb}
use Rattle.std.proofs.Math.Nat.{mul-le-mul_left, mod-lt, mul-suc}
use Rattle.std.proofs.lemmas.Bool.{cases_lt, cond_both}
use Rattle.std.proofs.lemmas.List.{append-nil, take_at, drop_at, take-take, take-append-le, drop-take, drop-drop, length-take-le, length-replicate, take-replicate, drop-replicate, replicate-append-replicate, length-map, map_push}
use Rattle.std.proofs.lemmas.List.Elements.{All-map, All-head, All-tail, filter-append}
use Rattle.std.specs.List.{enumerate_from, flat_map, last_or, range_with_len}
use Rattle.nvm_values.specs.declared.sqe.Sqe.{Sqe}
use Rattle.nvm_values.specs.Sqe.{sqe_bytes}
use Rattle.nvm_values.specs.Cqe.{cqe_bytes}
use Rattle.nvm_values.proofs.SqeLemmas.{length-sqe_bytes}
use Rattle.nvm_values.proofs.CqeLemmas.{length-cqe_bytes}
use Rattle.nvm_model.specs.declared.command.Completion.{Completion}
use Rattle.nvm_model.specs.Memory.{page_at, with_bytes, written, zero_page}
use Rattle.nvm_model.specs.Ring.{cell, completion_entry, cq_page, due_entries, entry_or_zeroes, ring_cell, ring_page, sq_page}

-- Bytes of a page that is written, and the cells of a ring in it.

-- what was written stands there
written-read : (page : List ℕ) (at : ℕ) (bytes : List ℕ) → at ≤ length page → take (length bytes) (drop at (written page at bytes)) ≡ bytes
written-read page at bytes h =
    let front : length (take at page) ≡ at = length-take-le at page h in
    let rest : drop at (written page at bytes) ≡ bytes ++ drop (at + length bytes) page =
    ap (drop at) (append_assoc (take at page) bytes (drop (at + length bytes) page)) ∙ drop_at (take at page) (bytes ++ drop (at + length bytes) page) at front in
    ap (take (length bytes)) rest ∙ take_at bytes (drop (at + length bytes) page) (length bytes) refl

-- bytes before it stay
written-before : (page : List ℕ) (at : ℕ) (bytes : List ℕ) (from k : ℕ) → at ≤ length page → from + k ≤ at → take k (drop from (written page at bytes)) ≡ take k (drop from page)
written-before page at bytes from k h l =
    let front : length (take at page) ≡ at = length-take-le at page h in
    let inside : from + k ≤ length (take at page) = omega (arith, front) in
    let same : take (from + k) (written page at bytes) ≡ take (from + k) page =
    ap (take (from + k)) (append_assoc (take at page) bytes (drop (at + length bytes) page))
    ∙ take-append-le (from + k) (take at page) (bytes ++ drop (at + length bytes) page) inside
    ∙ take-take (from + k) at page l in
    sym (drop-take from k (written page at bytes)) ∙ ap (drop from) same ∙ drop-take from k page

-- bytes after it stay
written-after : (page : List ℕ) (at : ℕ) (bytes : List ℕ) (from k : ℕ) → at ≤ length page → at + length bytes ≤ from → take k (drop from (written page at bytes)) ≡ take k (drop from page)
written-after page at bytes from k h l =
    let front : length (take at page) ≡ at = length-take-le at page h in
    let end : length (take at page ++ bytes) ≡ at + length bytes = length-append (take at page) bytes ∙ ap (λ n. n + length bytes) front in
    let rest : drop (at + length bytes) (written page at bytes) ≡ drop (at + length bytes) page =
    drop_at (take at page ++ bytes) (drop (at + length bytes) page) (at + length bytes) end in
    let far : at + length bytes + (from - (at + length bytes)) ≡ from = omega arith in
    let same : drop from (written page at bytes) ≡ drop from page =
    ap (λ n. drop n (written page at bytes)) (sym far)
    ∙ sym (drop-drop (from - (at + length bytes)) (at + length bytes) (written page at bytes))
    ∙ ap (drop (from - (at + length bytes))) rest
    ∙ drop-drop (from - (at + length bytes)) (at + length bytes) page
    ∙ ap (λ n. drop n page) far in
    ap (take k) same

-- a page that is written keeps its length
pub length-written : (page : List ℕ) (at : ℕ) (bytes : List ℕ) → at + length bytes ≤ length page → length (written page at bytes) ≡ length page
length-written page at bytes h =
    let within : at ≤ length page = omega arith in
    let front : length (take at page) ≡ at = length-take-le at page within in
    let a = length-append (take at page ++ bytes) (drop (at + length bytes) page) in
    let b = length-append (take at page) bytes in
    let c = length-drop (at + length bytes) page in
    omega (arith, a, b, c, front)

-- the cell that was written
pub cell-written : (k place : ℕ) (page bytes : List ℕ) → length bytes ≡ k → k * place ≤ length page → cell k place (written page (k * place) bytes) ≡ bytes
cell-written k place page bytes e h =
    ap (λ n. take n (drop (k * place) (written page (k * place) bytes))) (sym e) ∙ written-read page (k * place) bytes h

-- every other cell stays
pub cell-written_other : (k place other : ℕ) (page bytes : List ℕ) → length bytes ≡ k → k * place ≤ length page → other ≢ place → cell k other (written page (k * place) bytes) ≡ cell k other page
cell-written_other k place other page bytes e h ne =
    elim (cases_lt other place) [
      | inl l ↦
          let up : other + 1 ≤ place = omega arith in
          let m : k * (other + 1) ≤ k * place = mul-le-mul_left k up in
          let below : k * other + k ≤ k * place = omega (arith, m) in
          written-before page (k * place) bytes (k * other) k h below
      | inr g ↦
          let up : place + 1 ≤ other = omega arith in
          let m : k * (place + 1) ≤ k * other = mul-le-mul_left k up in
          let above : k * place + length bytes ≤ k * other = omega (arith, m, e) in
          written-after page (k * place) bytes (k * other) k h above
    ]

-- bytes that were written into a page of 4,096 bytes were written at a place of it
written-within : (page bytes : List ℕ) (at : ℕ) → at + length bytes ≤ 4096 → length (written page at bytes) ≡ 4096 → at ≤ length page
written-within page bytes at few whole =
    omega (arith, few, whole, length-append (take at page ++ bytes) (drop (at + length bytes) page), length-append (take at page) bytes, length-take at page, length-drop (at + length bytes) page)

-- a cell's bytes of a copy of one of the pages, which was written there only, make that page the copy
pub cell_back : (k p place : ℕ) (pages new_pages : List (List ℕ)) (page bytes : List ℕ) → p < length pages → length bytes ≡ k → length page ≡ 4096 → k * place + k ≤ 4096 →
    page ≡ written (page_at pages p) (k * place) bytes → new_pages ≡ with_bytes pages p (k * place) (cell k place page) →
    (new_pages ≡ with_bytes pages p (k * place) bytes) × (page_at new_pages p ≡ page)
cell_back k p place pages new_pages page bytes some full whole few page_is new_is =
    let within : k * place ≤ length (page_at pages p) = written-within (page_at pages p) bytes (k * place) (omega (arith, few, full)) (ap length (sym page_is) ∙ whole) in
    let put : cell k place page ≡ bytes = ap (cell k place) page_is ∙ cell-written k place (page_at pages p) bytes full within in
    let there : new_pages ≡ with_bytes pages p (k * place) bytes = new_is ∙ ap (with_bytes pages p (k * place)) put in
    (there, ap (λ (ps : List (List ℕ)). page_at ps p) there ∙ get_or-set_same pages p (written (page_at pages p) (k * place) bytes) [] some ∙ sym page_is)

-- the cells of a zeroed page
pub cell-zero_page : (k place : ℕ) → k * place + k ≤ 4096 → cell k place zero_page ≡ replicate k 0
unfolding zero_page
cell-zero_page k place h =
    let room : k ≤ 4096 - k * place = omega arith in
    ap (take k) (drop-replicate {X = ℕ} (k * place) 4096 0) ∙ take-replicate {X = ℕ} k (4096 - k * place) 0 room

pub length-zero_page : length zero_page ≡ 4096
unfolding zero_page
length-zero_page = length-replicate {A = ℕ} 4096 0

-- The page of a ring, cell by cell.

-- what was written behind a front
written-behind : (front page : List ℕ) (at : ℕ) (bytes : List ℕ) → written (front ++ page) (length front + at) bytes ≡ front ++ written page at bytes
written-behind front page at bytes =
    let mid : drop (length front) (front ++ page) ≡ page = drop_at front page (length front) refl in
    let before : take (length front + at) (front ++ page) ≡ front ++ take at page =
    take-add (length front) at (front ++ page) ∙ ap₂ (λ (a b : List ℕ). a ++ b) (take_at front page (length front) refl) (ap (take at) mid) in
    let place : length front + at + length bytes ≡ length front + (at + length bytes) = omega arith in
    let behind : drop (length front + at + length bytes) (front ++ page) ≡ drop (at + length bytes) page =
    ap (λ n. drop n (front ++ page)) place ∙ sym (drop-drop (at + length bytes) (length front) (front ++ page)) ∙ ap (drop (at + length bytes)) mid in
    ap₂ (λ (a b : List ℕ). a ++ bytes ++ b) before behind
    ∙ append_assoc (front ++ take at page) bytes (drop (at + length bytes) page)
    ∙ append_assoc front (take at page) (bytes ++ drop (at + length bytes) page)
    ∙ ap (λ (rest : List ℕ). front ++ rest) (sym (append_assoc (take at page) bytes (drop (at + length bytes) page)))

-- the same cells one after another
cells-same : (f g : ℕ → List ℕ) (a n : ℕ) → ((q : ℕ) → a ≤ q → q < a + n → g q ≡ f q) → flat_map g (range_with_len a n) ≡ flat_map f (range_with_len a n)
cells-same f g a zero same = refl
cells-same f g a (suc n) same =
    ap₂ (λ (x y : List ℕ). x ++ y) (same a (omega arith) (omega arith)) (cells-same f g (a + 1) n (λ q low high. same q (omega (arith, low)) (omega (arith, high))))

-- so many cells of so many bytes
length-cells : (f : ℕ → List ℕ) (k a n : ℕ) → ((q : ℕ) → length (f q) ≡ k) → length (flat_map f (range_with_len a n)) ≡ k * n
length-cells f k a zero size = omega arith
length-cells f k a (suc n) size =
    let all : k + k * n ≡ k * suc n = omega (arith, mul-suc k n) in
    length-append (f a) (flat_map f (range_with_len (a + 1) n)) ∙ ap₂ (λ (x y : ℕ). x + y) (size a) (length-cells f k (a + 1) n size) ∙ all

-- one cell of several is written
cells-written : (f g : ℕ → List ℕ) (k a n p : ℕ) (e rest : List ℕ) → ((q : ℕ) → length (f q) ≡ k) → p < n → length e ≡ k → g (a + p) ≡ e → ((q : ℕ) → a ≤ q → q < a + n → q ≢ a + p → g q ≡ f q) →
    flat_map g (range_with_len a n) ++ rest ≡ written (flat_map f (range_with_len a n) ++ rest) (k * p) e
cells-written f g k a zero p e rest size there long here others = absurd (omega arith)
cells-written f g k a (suc n) zero e rest size there long here others =
    let own : g a ≡ e = ap g (omega arith) ∙ here in
    let after = cells-same f g (a + 1) n (λ q low high. others q (omega (arith, low)) (omega (arith, high)) (λ is. absurd (omega (arith, is, low)))) in
    let cells = flat_map f (range_with_len (a + 1) n) in
    let start : k * 0 ≡ 0 = omega arith in
    let next : length (f a) ≡ 0 + length e = omega (arith, size a, long) in
    let behind : drop (0 + length e) (f a ++ cells ++ rest) ≡ cells ++ rest = ap (drop (0 + length e)) (append_assoc (f a) cells rest) ∙ drop_at (f a) (cells ++ rest) (0 + length e) next in
    ap₂ (λ (x y : List ℕ). x ++ y ++ rest) own after ∙ append_assoc e cells rest ∙ ap (λ (x : List ℕ). e ++ x) (sym behind) ∙ sym (ap (λ (m : ℕ). written (f a ++ cells ++ rest) m e) start)
cells-written f g k a (suc n) (suc p) e rest size there long here others =
    let own : g a ≡ f a = others a (omega arith) (omega arith) (λ is. absurd (omega (arith, is))) in
    let cells = flat_map f (range_with_len (a + 1) n) in
    let new = flat_map g (range_with_len (a + 1) n) in
    let next : a + 1 + p ≡ a + suc p = omega arith in
    let place : k * suc p ≡ length (f a) + k * p = omega (arith, mul-suc k p, size a) in
    let after : new ++ rest ≡ written (cells ++ rest) (k * p) e =
    cells-written f g k (a + 1) n p e rest size (omega arith) long (ap g next ∙ here) (λ q low high other. others q (omega (arith, low)) (omega (arith, high)) (λ is. other (is ∙ sym next))) in
    append_assoc (g a) new rest ∙ ap₂ (λ (x y : List ℕ). x ++ y) own after ∙ sym (written-behind (f a) (cells ++ rest) (k * p) e)
    ∙ ap₂ (λ (page : List ℕ) (m : ℕ). written page m e) (sym (append_assoc (f a) cells rest)) (sym place)

-- The cells of a ring after one entry more.

enumerate-push : {X : Type 0} (n : ℕ) (xs : List X) (x : X) → enumerate_from n (xs ++ x ∷ []) ≡ enumerate_from n xs ++ (n + length xs, x) ∷ []
enumerate-push n [] x = ap (λ (m : ℕ). (m, x) ∷ []) (omega arith)
enumerate-push n (y ∷ xs) x =
    let number : n + 1 + length xs ≡ n + length (y ∷ xs) = omega arith in
    ap (λ es. (n, y) ∷ es) (enumerate-push (n + 1) xs x ∙ ap (λ (m : ℕ). enumerate_from (n + 1) xs ++ (m, x) ∷ []) number)

last-push : {A : Type 0} (o : Option A) (xs : List A) (x : A) → last_or o (xs ++ x ∷ []) ≡ Some x
last-push o [] x = refl
last-push o (y ∷ xs) x = last-push (Some y) xs x

-- what is due to a place
due-push : (n p : ℕ) (entries : List (List ℕ)) (e : List ℕ) → due_entries n p (entries ++ e ∷ []) ≡ due_entries n p entries ++ cond (length entries % n == p) ((length entries, e) ∷ []) []
due-push n p entries e =
    let test : ℕ × List ℕ → Bool = λ x. x.0 % n == p in
    let number : 0 + length entries ≡ length entries = omega arith in
    ap (filter test) (enumerate-push 0 entries e ∙ ap (λ (m : ℕ). enumerate_from 0 entries ++ (m, e) ∷ []) number) ∙ filter-append test (enumerate_from 0 entries) ((length entries, e) ∷ [])

-- the entry stands in its cell
cell-newest : (k n : ℕ) (entries : List (List ℕ)) (e : List ℕ) → ring_cell k n (entries ++ e ∷ []) (length entries % n) ≡ e
cell-newest k n entries e =
    let due = due_entries n (length entries % n) entries in
    ap (λ es. entry_or_zeroes k (last_or None es)) (due-push n (length entries % n) entries e ∙ ap (λ (b : Bool). due ++ cond b ((length entries, e) ∷ []) []) (eq-eqb (length entries % n) (length entries % n) refl))
    ∙ ap (entry_or_zeroes k) (last-push None due (length entries, e))

-- and every other cell stays
cell-kept : (k n : ℕ) (entries : List (List ℕ)) (e : List ℕ) (p : ℕ) → p ≢ length entries % n → ring_cell k n (entries ++ e ∷ []) p ≡ ring_cell k n entries p
cell-kept k n entries e p other =
    let due = due_entries n p entries in
    ap (λ es. entry_or_zeroes k (last_or None es)) (due-push n p entries e ∙ ap (λ (b : Bool). due ++ cond b ((length entries, e) ∷ []) []) (ne_eqb (length entries % n) p (λ is. other (sym is))) ∙ append-nil due)

-- a cell has as many bytes as an entry
length-cell_from : (k n p m : ℕ) (o : Option (ℕ × List ℕ)) (entries : List (List ℕ)) → length (entry_or_zeroes k o) ≡ k → All (λ (e : List ℕ). length e ≡ k) entries →
    length (entry_or_zeroes k (last_or o (filter (λ (e : ℕ × List ℕ). e.0 % n == p) (enumerate_from m entries)))) ≡ k
length-cell_from k n p m o [] first all = first
length-cell_from k n p m o (x ∷ entries) first all =
    let rest = All-tail (λ (e : List ℕ). length e ≡ k) x entries all in
    let others = filter (λ (e : ℕ × List ℕ). e.0 % n == p) (enumerate_from (m + 1) entries) in
    cond_both (m % n == p) ((m, x) ∷ others) others (λ (es : List (ℕ × List ℕ)). length (entry_or_zeroes k (last_or o es)) ≡ k)
    (λ due. length-cell_from k n p (m + 1) (Some (m, x)) entries (All-head (λ (e : List ℕ). length e ≡ k) x entries all) rest)
    (λ not_due. length-cell_from k n p (m + 1) o entries first rest)

length-ring_cell : (k n : ℕ) (entries : List (List ℕ)) → All (λ (e : List ℕ). length e ≡ k) entries → (p : ℕ) → length (ring_cell k n entries p) ≡ k
length-ring_cell k n entries all p = length-cell_from k n p 0 None entries (length-replicate k 0) all

-- The page as its entries were written one after another.

-- none was: all bytes are zeroes
abbrev zeroes : ℕ → List ℕ
zeroes k = replicate k 0

zero_cells : (k a n : ℕ) → flat_map (λ (p : ℕ). zeroes k) (range_with_len a n) ≡ zeroes (k * n)
zero_cells k a zero = let none : 0 ≡ k * 0 = omega arith in ap zeroes none
zero_cells k a (suc n) =
    let all : k + k * n ≡ k * suc n = omega (arith, mul-suc k n) in
    ap (λ (x : List ℕ). zeroes k ++ x) (zero_cells k (a + 1) n) ∙ replicate-append-replicate k (k * n) 0 ∙ ap zeroes all

pub ring_page-none : (k n : ℕ) → k * n ≤ 4096 → ring_page k n [] ≡ zero_page
unfolding ring_page zero_page
ring_page-none k n few =
    let all : k * n + (4096 - k * n) ≡ 4096 = omega arith in
    ap (λ (x : List ℕ). x ++ replicate (4096 - k * n) 0) (zero_cells k 0 n) ∙ replicate-append-replicate (k * n) (4096 - k * n) 0 ∙ ap (λ (m : ℕ). replicate m 0) all

-- one entry more is written into the cell that is due to its number
pub ring_page-push : (k n : ℕ) (entries : List (List ℕ)) (e : List ℕ) → All (λ (x : List ℕ). length x ≡ k) entries → length e ≡ k → 0 < n → ring_page k n (entries ++ e ∷ []) ≡ written (ring_page k n entries) (k * (length entries % n)) e
unfolding ring_page
ring_page-push k n entries e all long some =
    let p = length entries % n in
    let at : 0 + p ≡ p = omega arith in
    cells-written (ring_cell k n entries) (ring_cell k n (entries ++ e ∷ [])) k 0 n p e (replicate (4096 - k * n) 0) (length-ring_cell k n entries all) (mod-lt (length entries) some) long
    (ap (ring_cell k n (entries ++ e ∷ [])) at ∙ cell-newest k n entries e) (λ q low high other. cell-kept k n entries e q (λ is. other (is ∙ sym at)))

pub length-ring_page : (k n : ℕ) (entries : List (List ℕ)) → All (λ (x : List ℕ). length x ≡ k) entries → k * n ≤ 4096 → length (ring_page k n entries) ≡ 4096
unfolding ring_page
length-ring_page k n entries all few =
    length-append (flat_map (ring_cell k n entries) (range_with_len 0 n)) (replicate (4096 - k * n) 0)
    ∙ ap₂ (λ (x y : ℕ). x + y) (length-cells (ring_cell k n entries) k 0 n (length-ring_cell k n entries all)) (length-replicate (4096 - k * n) 0)
    ∙ omega arith

all-sqe_bytes : (submitted : List Sqe) → All (λ (e : List ℕ). length e ≡ 64) (map sqe_bytes submitted)
all-sqe_bytes submitted =
    All-map (λ (e : List ℕ). length e ≡ 64) sqe_bytes submitted (λ k d l. length-sqe_bytes (get_or submitted k d))

all-completion_bytes : (lane : ℕ) (posted : List Completion) → All (λ (e : List ℕ). length e ≡ 16) (map (λ (c : Completion). cqe_bytes (completion_entry lane c)) posted)
all-completion_bytes lane posted =
    All-map (λ (e : List ℕ). length e ≡ 16) (λ (c : Completion). cqe_bytes (completion_entry lane c)) posted (λ k d l. length-cqe_bytes (completion_entry lane (get_or posted k d)))

-- the pages of a lane's queues have 4,096 bytes
pub length-sq_page : (size : ℕ) (submitted : List Sqe) → size ≤ 64 → length (sq_page size submitted) ≡ 4096
length-sq_page size submitted few = length-ring_page 64 size (map sqe_bytes submitted) (all-sqe_bytes submitted) (omega (arith, few))

pub length-cq_page : (lane size : ℕ) (posted : List Completion) → size ≤ 256 → length (cq_page lane size posted) ≡ 4096
length-cq_page lane size posted few = length-ring_page 16 size (map (λ (c : Completion). cqe_bytes (completion_entry lane c)) posted) (all-completion_bytes lane posted) (omega (arith, few))

-- one entry more in a lane's submission queue, and one completion more in its completion queue
pub sq_page-push : (size : ℕ) (submitted : List Sqe) (e : Sqe) → 0 < size → sq_page size (submitted ++ e ∷ []) ≡ written (sq_page size submitted) (64 * (length submitted % size)) (sqe_bytes e)
sq_page-push size submitted e some =
    ap (ring_page 64 size) (map_push sqe_bytes submitted e)
    ∙ ring_page-push 64 size (map sqe_bytes submitted) (sqe_bytes e) (all-sqe_bytes submitted) (length-sqe_bytes e) some
    ∙ ap (λ n. written (sq_page size submitted) (64 * (n % size)) (sqe_bytes e)) (length-map submitted sqe_bytes)

pub cq_page-push : (lane size : ℕ) (posted : List Completion) (c : Completion) → 0 < size → cq_page lane size (posted ++ c ∷ []) ≡ written (cq_page lane size posted) (16 * (length posted % size)) (cqe_bytes (completion_entry lane c))
cq_page-push lane size posted c some =
    let bytes_of : Completion → List ℕ = λ c. cqe_bytes (completion_entry lane c) in
    ap (ring_page 16 size) (map_push bytes_of posted c)
    ∙ ring_page-push 16 size (map bytes_of posted) (bytes_of c) (all-completion_bytes lane posted) (length-cqe_bytes (completion_entry lane c)) some
    ∙ ap (λ n. written (cq_page lane size posted) (16 * (n % size)) (bytes_of c)) (length-map posted bytes_of)
