use Rattle.std.proofs.Common.{◌≡◌, ℕ, zero, suc, ◌+◌, ◌-◌, ◌<◌, ◌≤◌, List, [], ◌∷◌, ◌++◌, length, take, set, get_or, map, refl, sym, ap, ◌∙◌, arith, zero-add, drop, length-append}
use Rattle.std.proofs.lemmas.List.{length-set, map-set, set-get_or, set-append_left, set-append_right, get_or-map, get_or_default, take_at}
use Rattle.std.proofs.lemmas.List.Concat.{get_or-flat_map}
use Rattle.std.proofs.Math.Seq.{take-append_seam, drop-append_seam}
use Rattle.nvm_model.specs.Memory.{page_at}
use Rattle.guest_ram.specs.Window.{WindowState, no_window}
use Rattle.guest_ram.specs.Ram.{all_pages, shape}
use Rattle.guest_ram.specs.Place.{IsPlace}

-- a page that is put in its window is put in its place among all
pub all_pages-set : (ws : List WindowState) (i j : ℕ) (w : WindowState) (bytes : List ℕ) → i < length ws → j < length (get_or ws i no_window).pages
    → w.pages ≡ set (get_or ws i no_window).pages j bytes → all_pages (set ws i w) ≡ set (all_pages ws) (length (all_pages (take i ws)) + j) bytes
all_pages-set [] i j w bytes there within same = absurd (omega arith)
all_pages-set (v ∷ ws) zero j w bytes there within same =
    ap (λ (p : List (List ℕ)). p ++ all_pages ws) same
    ∙ sym (set-append_left v.pages (all_pages ws) j bytes within)
    ∙ ap (λ n. set (v.pages ++ all_pages ws) n bytes) (sym (zero-add j))
all_pages-set (v ∷ ws) (suc i) j w bytes there within same =
    let before = all_pages (take i ws) in
    let n : ℕ = length (v.pages ++ before) + j in
    let e : n - length v.pages ≡ length before + j = omega (arith, length-append v.pages before) in
    let le : length v.pages ≤ n = omega (arith, length-append v.pages before) in
    ap (λ p. v.pages ++ p) (all_pages-set ws i j w bytes (omega arith) within same)
    ∙ ap (λ m. v.pages ++ set (all_pages ws) m bytes) (sym e)
    ∙ sym (set-append_right v.pages (all_pages ws) (length v.pages) n bytes refl le)

-- a page by its number over all windows
pub page_at-all_pages : (ws : List WindowState) (page i j : ℕ) → IsPlace ws page i j → page_at (all_pages ws) page ≡ page_at (get_or ws i no_window).pages j
page_at-all_pages ws page i j h =
    ap (page_at (all_pages ws)) h.number
    ∙ get_or-flat_map (λ (w : WindowState). w.pages) ws i j no_window [] h.there h.within

pub shape-set : (ws : List WindowState) (i j : ℕ) (w : WindowState) (bytes : List ℕ) → i < length ws → w.lane ≡ (get_or ws i no_window).lane
    → w.pages ≡ set (get_or ws i no_window).pages j bytes → shape (set ws i w) ≡ shape ws
shape-set ws i j w bytes there lane pages =
    let of : WindowState → ℕ × ℕ = λ v. (v.lane, length v.pages) in
    let count : length w.pages ≡ length (get_or ws i no_window).pages = ap length pages ∙ length-set (get_or ws i no_window).pages j bytes in
    let same : of w ≡ of (get_or ws i no_window) = cc in
    map-set of ws i w
    ∙ ap (set (map of ws) i) (same ∙ sym (get_or-map of ws i no_window (0, 0) there))
    ∙ set-get_or (map of ws) i (0, 0)

-- what comes back of windows that were lent, where one of them was changed
lent_back : (ws : List WindowState) (i : ℕ) (w : WindowState) → take (length ws) (set ws i w ++ drop (length (set ws i w)) ws) ≡ set ws i w
lent_back ws i w = take_at (set ws i w) (drop (length (set ws i w)) ws) (length ws) (length-set ws i w)

-- a page that is read in its window
pub page-read : (ws : List WindowState) (page i j : ℕ) (u : WindowState) → IsPlace ws page i j → u ≡ get_or ws i u → page_at u.pages j ≡ page_at (all_pages ws) page
page-read ws page i j u place is =
    let same : u ≡ get_or ws i no_window = is ∙ get_or_default ws i u no_window place.there in
    ap (λ (x : WindowState). page_at x.pages j) same ∙ sym (page_at-all_pages ws page i j place)

-- the window w, which was v, has these bytes in its page
pub record HasPut (ws : List WindowState) (page i j : ℕ) (v w : WindowState) (bytes : List ℕ) : Type 0 where
  pub place : IsPlace ws page i j
  pub is : v ≡ get_or ws i v
  pub lane : w.lane ≡ v.lane
  pub pages : w.pages ≡ set v.pages j bytes

pub pages-put : (ws : List WindowState) (page i j : ℕ) (v w : WindowState) (bytes : List ℕ) → HasPut ws page i j v w bytes
    → all_pages (take (length ws) (set ws i w ++ drop (length (set ws i w)) ws)) ≡ set (all_pages ws) page bytes
pages-put ws page i j v w bytes h =
    let was : v ≡ get_or ws i no_window = h.is ∙ get_or_default ws i v no_window h.place.there in
    let put : w.pages ≡ set (get_or ws i no_window).pages j bytes = cc in
    ap all_pages (lent_back ws i w)
    ∙ all_pages-set ws i j w bytes h.place.there h.place.within put
    ∙ ap (λ n. set (all_pages ws) n bytes) (sym h.place.number)

pub shape-put : (ws : List WindowState) (page i j : ℕ) (v w : WindowState) (bytes : List ℕ) → HasPut ws page i j v w bytes
    → shape (take (length ws) (set ws i w ++ drop (length (set ws i w)) ws)) ≡ shape ws
shape-put ws page i j v w bytes h =
    let was : v ≡ get_or ws i no_window = h.is ∙ get_or_default ws i v no_window h.place.there in
    let lane : w.lane ≡ (get_or ws i no_window).lane = cc in
    let put : w.pages ≡ set (get_or ws i no_window).pages j bytes = cc in
    ap shape (lent_back ws i w) ∙ shape-set ws i j w bytes h.place.there lane put

-- Whole memories.

-- two lists with a first element are the same
heads : {X : Type 0} {x y : X} {xs ys : List X} → x ∷ xs ≡ y ∷ ys → x ≡ y
heads e = cc

tails : {X : Type 0} {x y : X} {xs ys : List X} → x ∷ xs ≡ y ∷ ys → xs ≡ ys
tails e = cc

-- memories of one shape with the same pages are the same
pub same_memory : (a b : List WindowState) → shape a ≡ shape b → all_pages a ≡ all_pages b → a ≡ b
same_memory [] [] same pages = refl
same_memory [] (w ∷ b) same pages = cc
same_memory (v ∷ a) [] same pages = cc
same_memory (v ∷ a) (w ∷ b) same pages =
    let long : length v.pages ≡ length w.pages = ap (λ (s : ℕ × ℕ). s.1) (heads same) in
    let first : v.pages ≡ w.pages = sym (take-append_seam v.pages (all_pages a)) ∙ ap (λ (ps : List (List ℕ)). take (length v.pages) ps) pages
    ∙ ap (λ (n : ℕ). take n (w.pages ++ all_pages b)) long ∙ take-append_seam w.pages (all_pages b) in
    let others : all_pages a ≡ all_pages b = sym (drop-append_seam v.pages (all_pages a)) ∙ ap (λ (ps : List (List ℕ)). drop (length v.pages) ps) pages
    ∙ ap (λ (n : ℕ). drop n (w.pages ++ all_pages b)) long ∙ drop-append_seam w.pages (all_pages b) in
    let window : v ≡ w = ap (λ (k : ℕ). record { lane = k; pages = v.pages }) (ap (λ (s : ℕ × ℕ). s.0) (heads same)) ∙ ap (λ (ps : List (List ℕ)). record { lane = w.lane; pages = ps }) first in
    ap (λ (x : WindowState). x ∷ a) window ∙ ap (λ (ws : List WindowState). w ∷ ws) (same_memory a b (tails same) others)
