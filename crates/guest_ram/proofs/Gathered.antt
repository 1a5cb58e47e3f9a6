use Rattle.std.proofs.Common.{◌≡◌, ℕ, zero, suc, ◌+◌, ◌-◌, ◌/◌, ◌<◌, ◌≤◌, true, false, List, [], ◌∷◌, ◌++◌, Option, Some, None, Result, Ok, Err, IfOk, IfSome, is_err, if◌then◌else◌, ◌==◌, nat_le, subst, length, replicate, take, get_or, set, refl, sym, ap, ◌∙◌, arith, append_assoc}
use Rattle.std.proofs.lemmas.List.{append-nil, length_push, set_at, get_or_append_left}
use Rattle.std.proofs.lemmas.Bool.Decides.{nat_tests}
use Rattle.std.specs.Int.{div_ceil}
use Rattle.nvm_model.specs.declared.command.Pages.{Pages}
use Rattle.nvm_model.specs.Check.{page_named, is_page, with_page, all_named, listed, list_entry, list_entries, pages_needed, as_pages}
use Rattle.nvm_model.specs.Memory.{page_at, window_address}
use Rattle.guest_ram.specs.declared.window.span.BadPrp.{BadPrp}
use Rattle.guest_ram.specs.Window.{WindowState, data_pages}
use Rattle.guest_ram.specs.Span.{named_in, IsNamed, IsWithin, with_number, with_named, and_then, with_all, with_list, no_pages, gathered}

-- what is answered where the pages xs were named before
abbrev pub answer_after : List ℕ → Result (List ℕ) ℕ → Result Pages BadPrp
answer_after xs (Ok pages) = Ok (as_pages (Ok (xs ++ pages)))
answer_after xs (Err place) = Err (record { which = place })

answer_after-with_page : (xs : List ℕ) (i page : ℕ) (r : Result (List ℕ) ℕ) → answer_after (xs ++ page ∷ []) r ≡ answer_after xs (with_page i (Some page) r)
answer_after-with_page xs i page (Ok pages) = ap (λ l. Ok (as_pages (Ok l))) (append_assoc xs (page ∷ []) pages)
answer_after-with_page xs i page (Err place) = refl

-- one more page of fewer than eight
set-pages : (xs : List ℕ) (page n : ℕ) → length xs + n ≡ 7 → set (xs ++ replicate (suc n) 0) (length xs) page ≡ (xs ++ page ∷ []) ++ replicate n 0
set-pages xs page n h = set_at xs 0 (replicate n 0) page (length xs) refl ∙ sym (append_assoc xs (page ∷ []) (replicate n 0))

with_number-as_pages : (xs : List ℕ) (page : ℕ) → length xs < 8 → with_number (as_pages (Ok xs)) page ≡ as_pages (Ok (xs ++ page ∷ []))
with_number-as_pages xs page h =
    let P : List ℕ → ℕ → Pages = λ list used. record { list = list; used = used } in
    let left : 8 - length xs ≡ suc (7 - length xs) = omega arith in
    let more : 8 - length (xs ++ page ∷ []) ≡ 7 - length xs = omega (arith, length_push xs page) in
    let lists : set (xs ++ replicate (8 - length xs) 0) (length xs) page ≡ (xs ++ page ∷ []) ++ replicate (8 - length (xs ++ page ∷ [])) 0 =
    ap (λ n. set (xs ++ replicate n 0) (length xs) page) left ∙ set-pages xs page (7 - length xs) (omega arith) ∙ ap (λ n. (xs ++ page ∷ []) ++ replicate n 0) (sym more) in
    ap (λ l. P l (length xs + 1)) lists ∙ ap (λ n. P ((xs ++ page ∷ []) ++ replicate (8 - length (xs ++ page ∷ [])) 0) n) (sym (length_push xs page))

-- the pages that are gathered one by one are those that the pointers name
pub with_all-as_pages : (lane count : ℕ) (xs pointers : List ℕ) → length xs + length pointers ≤ 8
    → with_all lane count pointers (as_pages (Ok xs)) ≡ answer_after xs (all_named lane count (length xs) pointers)
with_all-as_pages lane count xs [] h = ap (λ l. Ok (as_pages (Ok l))) (sym (append-nil xs))
with_all-as_pages lane count xs (pointer ∷ pointers) h =
    elim (page_named lane count pointer) as (λ named. and_then (with_named (as_pages (Ok xs)) named) (with_all lane count pointers) ≡ answer_after xs (with_page (length xs) named (all_named lane count (length xs + 1) pointers))) [
      | None ↦ refl
      | Some page ↦
          ap (with_all lane count pointers) (with_number-as_pages xs page (omega arith))
          ∙ with_all-as_pages lane count (xs ++ page ∷ []) pointers (omega (arith, length_push xs page))
          ∙ ap (λ n. answer_after (xs ++ page ∷ []) (all_named lane count n pointers)) (length_push xs page)
          ∙ answer_after-with_page xs (length xs) page (all_named lane count (length xs + 1) pointers)
    ]

pub length-list_entries : (page : List ℕ) (i n : ℕ) → length (list_entries page i n) ≡ n
length-list_entries page i zero = refl
length-list_entries page i (suc n) = ap suc (length-list_entries page (i + 1) n)

-- the next entry of a list page
list_entries_more : (page : List ℕ) (i n : ℕ) → i < n → list_entries page i (n - i) ≡ list_entry page i ∷ list_entries page (i + 1) (n - (i + 1))
list_entries_more page i n h =
    let left : n - i ≡ suc (n - (i + 1)) = omega arith in
    ap (list_entries page i) left

pub with_all_more : (lane count : ℕ) (page : List ℕ) (i n : ℕ) (before after : Pages) → i < n → Ok after ≡ with_named before (page_named lane count (list_entry page i))
    → with_all lane count (list_entries page (i + 1) (n - (i + 1))) after ≡ with_all lane count (list_entries page i (n - i)) before
with_all_more lane count page i n before after h e =
    ap (λ r. and_then r (with_all lane count (list_entries page (i + 1) (n - (i + 1))))) e
    ∙ sym (ap (λ pointers. with_all lane count pointers before) (list_entries_more page i n h))

pub used-with_named : (before after : Pages) (named : Option ℕ) → Ok after ≡ with_named before named → after.used ≡ before.used + 1
used-with_named before after None e = cc
used-with_named before after (Some page) e =
    let same : after ≡ with_number before page = cc in
    ap (λ (p : Pages). p.used) same

-- what the pointers of a command name that needs n pages
abbrev pub named_by : ℕ → List (List ℕ) → ℕ → ℕ → ℕ → Result (List ℕ) ℕ
named_by lane memory prp1 prp2 n =
    if nat_le n 2 then all_named lane (length memory) 0 (take n (prp1 ∷ prp2 ∷ []))
    else with_page 0 (page_named lane (length memory) prp1) (listed lane memory (n - 1) (page_named lane (length memory) prp2))

named_by-list : (lane : ℕ) (memory : List (List ℕ)) (prp1 prp2 n : ℕ) → 3 ≤ n
    → named_by lane memory prp1 prp2 n ≡ with_page 0 (page_named lane (length memory) prp1) (listed lane memory (n - 1) (page_named lane (length memory) prp2))
named_by-list lane memory prp1 prp2 n h =
    let long : nat_le n 2 ≡ false = grind (arith, nat_tests) in
    ap (λ b. if b then all_named lane (length memory) 0 (take n (prp1 ∷ prp2 ∷ [])) else with_page 0 (page_named lane (length memory) prp1) (listed lane memory (n - 1) (page_named lane (length memory) prp2))) long

gathered-one : (lane : ℕ) (memory : List (List ℕ)) (prp1 prp2 : ℕ) → gathered lane memory prp1 prp2 1 ≡ answer_after [] (named_by lane memory prp1 prp2 1)
gathered-one lane memory prp1 prp2 = with_all-as_pages lane (length memory) [] (prp1 ∷ []) (omega arith)

gathered-two : (lane : ℕ) (memory : List (List ℕ)) (prp1 prp2 : ℕ) → gathered lane memory prp1 prp2 2 ≡ answer_after [] (named_by lane memory prp1 prp2 2)
gathered-two lane memory prp1 prp2 =
    elim (page_named lane (length memory) prp1) as (λ a. and_then (with_named no_pages a) (λ first. with_named first (page_named lane (length memory) prp2)) ≡ answer_after [] (with_page 0 a (with_page 1 (page_named lane (length memory) prp2) (Ok [])))) [
      | None ↦ refl
      | Some a ↦ elim (page_named lane (length memory) prp2) as (λ b. with_named (with_number no_pages a) b ≡ answer_after [] (with_page 0 (Some a) (with_page 1 b (Ok []))))
          [ None ↦ refl | Some b ↦ refl ]
    ]

gathered-long : (lane : ℕ) (memory : List (List ℕ)) (prp1 prp2 n : ℕ) → 3 ≤ n
    → gathered lane memory prp1 prp2 n ≡ and_then (with_named no_pages (page_named lane (length memory) prp1)) (λ first. with_list lane memory (n - 1) first (page_named lane (length memory) prp2))
gathered-long lane memory prp1 prp2 n h =
    let first_page = with_named no_pages (page_named lane (length memory) prp1) in
    let second = page_named lane (length memory) prp2 in
    let not_one : (n == 1) ≡ false = grind (arith, nat_tests) in
    let not_two : (n == 2) ≡ false = grind (arith, nat_tests) in
    ap (λ b. and_then first_page (λ first. if b then Ok first else if n == 2 then with_named first second else with_list lane memory (n - 1) first second)) not_one
    ∙ ap (λ b. and_then first_page (λ first. if b then with_named first second else with_list lane memory (n - 1) first second)) not_two

gathered-list : (lane : ℕ) (memory : List (List ℕ)) (a n : ℕ) (b : Option ℕ) → 3 ≤ n → n ≤ 8
    → with_list lane memory (n - 1) (with_number no_pages a) b ≡ answer_after [] (with_page 0 (Some a) (listed lane memory (n - 1) b))
gathered-list lane memory a n None low high = refl
gathered-list lane memory a n (Some b) low high =
    with_all-as_pages lane (length memory) (a ∷ []) (list_entries (page_at memory b) 0 (n - 1)) (omega (arith, length-list_entries (page_at memory b) 0 (n - 1)))
    ∙ answer_after-with_page [] 0 a (all_named lane (length memory) 1 (list_entries (page_at memory b) 0 (n - 1)))

gathered-three : (lane : ℕ) (memory : List (List ℕ)) (prp1 prp2 n : ℕ) → 3 ≤ n → n ≤ 8 → gathered lane memory prp1 prp2 n ≡ answer_after [] (named_by lane memory prp1 prp2 n)
gathered-three lane memory prp1 prp2 n low high =
    gathered-long lane memory prp1 prp2 n low
    ∙ elim (page_named lane (length memory) prp1) as (λ a. and_then (with_named no_pages a) (λ first. with_list lane memory (n - 1) first (page_named lane (length memory) prp2)) ≡ answer_after [] (with_page 0 a (listed lane memory (n - 1) (page_named lane (length memory) prp2))))
    [ None ↦ refl | Some a ↦ gathered-list lane memory a n (page_named lane (length memory) prp2) low high ]
    ∙ ap (answer_after []) (sym (named_by-list lane memory prp1 prp2 n low))

pub gathered-named_by : (lane : ℕ) (memory : List (List ℕ)) (prp1 prp2 n : ℕ) → 1 ≤ n → n ≤ 8 → gathered lane memory prp1 prp2 n ≡ answer_after [] (named_by lane memory prp1 prp2 n)
gathered-named_by lane memory prp1 prp2 zero low high = absurd (omega arith)
gathered-named_by lane memory prp1 prp2 (suc zero) low high = gathered-one lane memory prp1 prp2
gathered-named_by lane memory prp1 prp2 (suc (suc zero)) low high = gathered-two lane memory prp1 prp2
gathered-named_by lane memory prp1 prp2 (suc (suc (suc n))) low high = gathered-three lane memory prp1 prp2 (suc (suc (suc n))) (omega arith) high

-- so many pages, each below the number of data pages
pub record AreBelow (count n : ℕ) (pages : List ℕ) : Type 0 where
  pub len : length pages ≡ n
  pub below : (i : ℕ) → i < length pages → get_or pages i 0 < count

is_page-below : (lane count pointer : ℕ) → is_page lane count pointer ≡ true → (pointer - window_address lane) / 4096 - 2 < count
is_page-below lane count pointer h = grind (arith, nat_tests)

page_named-below : (lane count pointer : ℕ) → IfSome (page_named lane count pointer) (λ page. page < count)
page_named-below lane count pointer =
    elim (is_page lane count pointer) as (λ b. is_page lane count pointer ≡ b → IfSome (if b then Some ((pointer - window_address lane) / 4096 - 2) else None) (λ page. page < count))
    [ true ↦ λ e. is_page-below lane count pointer e | false ↦ λ e. tt ] refl

below_cons : (count page : ℕ) (pages : List ℕ) → page < count → ((i : ℕ) → i < length pages → get_or pages i 0 < count) → (i : ℕ) → i < length (page ∷ pages) → get_or (page ∷ pages) i 0 < count
below_cons count page pages h k zero l = h
below_cons count page pages h k (suc i) l = k i (omega arith)

with_page-below : (i count n : ℕ) (a : Option ℕ) (r : Result (List ℕ) ℕ) → IfSome a (λ page. page < count) → IfOk r (AreBelow count n) → IfOk (with_page i a r) (AreBelow count (suc n))
with_page-below i count n None r h k = tt
with_page-below i count n (Some page) (Ok pages) h k = record { len = ap suc k.len; below = below_cons count page pages h k.below }
with_page-below i count n (Some page) (Err place) h k = tt

all_named-below : (lane count i : ℕ) (pointers : List ℕ) → IfOk (all_named lane count i pointers) (AreBelow count (length pointers))
all_named-below lane count i [] = record { len = refl; below = λ j h. absurd (omega arith) }
all_named-below lane count i (pointer ∷ pointers) = with_page-below i count (length pointers) (page_named lane count pointer) (all_named lane count (i + 1) pointers) (page_named-below lane count pointer) (all_named-below lane count (i + 1) pointers)

listed-below : (lane : ℕ) (memory : List (List ℕ)) (n : ℕ) (a : Option ℕ) → IfOk (listed lane memory n a) (AreBelow (length memory) n)
listed-below lane memory n None = tt
listed-below lane memory n (Some page) =
    subst (λ (m : ℕ). IfOk (all_named lane (length memory) 1 (list_entries (page_at memory page) 0 n)) (AreBelow (length memory) m)) (length-list_entries (page_at memory page) 0 n) (all_named-below lane (length memory) 1 (list_entries (page_at memory page) 0 n))

named_by-below_long : (lane : ℕ) (memory : List (List ℕ)) (prp1 prp2 n : ℕ) → 3 ≤ n → IfOk (named_by lane memory prp1 prp2 n) (AreBelow (length memory) n)
named_by-below_long lane memory prp1 prp2 n h =
    let one_more : suc (n - 1) ≡ n = omega arith in
    let long : IfOk (with_page 0 (page_named lane (length memory) prp1) (listed lane memory (n - 1) (page_named lane (length memory) prp2))) (AreBelow (length memory) (suc (n - 1))) =
    with_page-below 0 (length memory) (n - 1) _ _ (page_named-below lane (length memory) prp1) (listed-below lane memory (n - 1) (page_named lane (length memory) prp2)) in
    subst (λ (r : Result (List ℕ) ℕ). IfOk r (AreBelow (length memory) n)) (sym (named_by-list lane memory prp1 prp2 n h))
    (subst (λ (m : ℕ). IfOk (with_page 0 (page_named lane (length memory) prp1) (listed lane memory (n - 1) (page_named lane (length memory) prp2))) (AreBelow (length memory) m)) one_more long)

pub named_by-below : (lane : ℕ) (memory : List (List ℕ)) (prp1 prp2 n : ℕ) → 1 ≤ n → IfOk (named_by lane memory prp1 prp2 n) (AreBelow (length memory) n)
named_by-below lane memory prp1 prp2 zero h = absurd (omega arith)
named_by-below lane memory prp1 prp2 (suc zero) h = all_named-below lane (length memory) 0 (prp1 ∷ [])
named_by-below lane memory prp1 prp2 (suc (suc zero)) h = all_named-below lane (length memory) 0 (prp1 ∷ prp2 ∷ [])
named_by-below lane memory prp1 prp2 (suc (suc (suc n))) h = named_by-below_long lane memory prp1 prp2 (suc (suc (suc n))) (omega arith)

-- what the answer says

div_ceil-eight : (n : ℕ) → div_ceil n 8 ≡ pages_needed n
div_ceil-eight n = omega arith

pub gathered-named_in : (w : WindowState) (prp1 prp2 count : ℕ) → 1 ≤ count → count ≤ 64
    → gathered w.lane (data_pages w) prp1 prp2 (div_ceil count 8) ≡ answer_after [] (named_in w prp1 prp2 count)
gathered-named_in w prp1 prp2 count low high =
    ap (gathered w.lane (data_pages w) prp1 prp2) (div_ceil-eight count)
    ∙ gathered-named_by w.lane (data_pages w) prp1 prp2 (pages_needed count) (omega arith) (omega arith)

pub named_in-below : (w : WindowState) (prp1 prp2 count : ℕ) → 1 ≤ count → IfOk (named_in w prp1 prp2 count) (AreBelow (length (data_pages w)) (pages_needed count))
named_in-below w prp1 prp2 count low = named_by-below w.lane (data_pages w) prp1 prp2 (pages_needed count) (omega arith)

pub answer_after-exact : (r : Result (List ℕ) ℕ) → IsNamed r (answer_after [] r)
answer_after-exact (Ok pages) = refl
answer_after-exact (Err place) = refl

pub answer_after-bad : (r : Result (List ℕ) ℕ) → is_err (answer_after [] r) ≡ is_err r
answer_after-bad (Ok pages) = refl
answer_after-bad (Err place) = refl

pub answer_after-pages : (r : Result (List ℕ) ℕ) → IfOk (answer_after [] r) (λ p. p ≡ as_pages r)
answer_after-pages (Ok pages) = refl
answer_after-pages (Err place) = tt

pub answer_after-within : (w : WindowState) (n : ℕ) (r : Result (List ℕ) ℕ) → IfOk r (AreBelow (length (data_pages w)) n) → IfOk (answer_after [] r) (IsWithin w n)
answer_after-within w n (Ok pages) h = record {
  used = h.len;
  there = λ i l. subst (λ (page : ℕ). page < length (data_pages w)) (sym (get_or_append_left pages (replicate (8 - length pages) 0) 0 i l)) (h.below i l);
}
answer_after-within w n (Err place) h = tt
