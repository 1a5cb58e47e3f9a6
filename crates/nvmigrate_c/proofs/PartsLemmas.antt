-- What C keeps of an image in parts stands for the library's parts.
use Rattle.std.proofs.Common.{◌≡◌, ℕ, suc, zero, ◌+◌, ◌<◌, ◌≤◌, Bool, Result, Ok, Err, List, [], ◌++◌, cond, length, take, drop, ap, ◌∙◌, sym, subst, refl, arith, length-append}
use Rattle.std.proofs.lemmas.Bool.{ne_eqb}
use Rattle.std.proofs.lemmas.List.{length-take, length-take-le, take_at}
use Rattle.ctl_state.specs.declared.parts.PartRefusal.{PartRefusal}
use Rattle.ctl_state.specs.declared.parts.PartRefusal.TheVariants.{BadSequence, TooLong, BadImage}
use Rattle.ctl_state.specs.Image.{image_bytes}
use Rattle.ctl_state.specs.Parts.{Begins, Feeds, PartsState, image_size, kept}
use Rattle.ctl_state.proofs.ImageLemmas.{begins, whole_size}
use Rattle.nvmigrate_c.specs.declared.parts.Parts.{Parts}
use Rattle.nvmigrate_c.specs.Parts.{IsParts, parts_in}

-- bytes with which an image begins aren't more than it has
pub begun_size : (lanes : ℕ) (bytes : List ℕ) → Begins lanes bytes → length bytes ≤ image_size lanes
begun_size lanes bytes is =
    let size = whole_size lanes (image_bytes is.image) is.image (is.is, refl) in
    let front = ap length is.front in
    let most = length-take (length bytes) (image_bytes is.image) in
    omega (arith, size, front, most)

pub none_fed : (p : Parts) → 1 ≤ p.lanes → p.lanes ≤ 8 → p.fed ≡ 0 → IsParts p
none_fed p some few none =
    let nothing : Begins p.lanes [] = begins p.lanes [] few (omega arith) tt in
    record { some = some; few = few; fed = omega (arith, none); begin = subst (λ n. Begins p.lanes (take n p.bytes)) (sym none) nothing }

-- bytes that the library takes in one part are parts
pub taken_is : (p : Parts) (old new : PartsState) → 1 ≤ p.lanes → p.lanes ≤ 8 → p.fed ≤ length p.bytes → old ≡ record { lanes = p.lanes; bytes = [] }
    → Feeds 0 (take p.fed p.bytes) (Ok tt) old new → IsParts p × (new ≡ parts_in p)
taken_is p old new some few fits empty fed =
    let is : new ≡ parts_in p = fed.1 ∙ (λ k. record { lanes = (empty k).lanes; bytes = take p.fed p.bytes }) in
    let begin : Begins p.lanes (take p.fed p.bytes)
    = subst (λ n. Begins n (take p.fed p.bytes)) (ap (λ (s : PartsState). s.lanes) empty) (subst (λ (b : List ℕ). Begins old.lanes b) (ap (λ (s : PartsState). s.bytes) is) fed.2) in
    let size = length-take-le p.fed p.bytes fits in
    let most = begun_size p.lanes (take p.fed p.bytes) begin in
    (record { some = some; few = few; fed = omega (arith, size, most); begin = begin }, is)

-- The bytes behind those that were fed.
pub fed_is : (p : Parts) (offset fed : ℕ) (part bytes : List ℕ) (old new : PartsState) → p.fed ≤ length p.bytes → offset ≤ length p.bytes → old ≡ parts_in p → Feeds offset part (Ok tt) old new
    → fed ≡ length new.bytes → bytes ≡ take offset p.bytes ++ part ++ drop (offset + length part) p.bytes → take fed bytes ≡ new.bytes
fed_is p offset fed part bytes old new fits within is feeds count made =
    let front : take offset p.bytes ≡ kept offset (take p.fed p.bytes) = kept_front offset p.fed p.bytes fits (subst (λ (s : PartsState). length (kept offset s.bytes) ≡ offset) is feeds.0) in
    let now : new.bytes ≡ take offset p.bytes ++ part
    = ap (λ (s : PartsState). s.bytes) feeds.1 ∙ ap (λ (s : PartsState). kept offset s.bytes ++ part) is ∙ ap (λ (x : List ℕ). x ++ part) (sym front) in
    ap (take fed) made ∙ take_at (take offset p.bytes ++ part) (drop (offset + length part) p.bytes) fed (sym (count ∙ ap length now)) ∙ sym now
  where
    kept_front : (offset fed : ℕ) (old : List ℕ) → fed ≤ length old → length (kept offset (take fed old)) ≡ offset → take offset old ≡ kept offset (take fed old)
    kept_front zero fed old fits next = refl
    kept_front (suc n) fed old fits next =
        let stays : kept (suc n) (take fed old) ≡ take fed old = ap (λ (b : Bool). cond b [] (take fed old)) (ne_eqb (suc n) 0 (λ e. absurd (omega (arith, e)))) in
        let same : fed ≡ suc n = sym (length-take-le fed old fits) ∙ ap length (sym stays) ∙ next in
        ap (λ m. take m old) (sym same) ∙ sym stays

-- they aren't more than C has room for
pub fed_fits : (p : Parts) (offset : ℕ) (part : List ℕ) (old new : PartsState) → old ≡ parts_in p → Feeds offset part (Ok tt) old new → IsParts p → offset + length part ≤ 264
fed_fits p offset part old new is feeds parts =
    let most = begun_size old.lanes new.bytes feeds.2 in
    let lanes : old.lanes ≡ p.lanes = ap (λ (s : PartsState). s.lanes) is in
    let size : length new.bytes ≡ offset + length part
    = ap (λ (s : PartsState). length s.bytes) feeds.1 ∙ length-append (kept offset old.bytes) part ∙ ap (λ n. n + length part) feeds.0 in
    omega (arith, most, lanes, size, parts.few)

-- what C keeps then
pub fed_goes : (p : Parts) (offset fed : ℕ) (part bytes : List ℕ) (old new : PartsState) → length p.bytes ≡ 264 → old ≡ parts_in p → Feeds offset part (Ok tt) old new
    → fed ≡ length new.bytes → bytes ≡ take offset p.bytes ++ part ++ drop (offset + length part) p.bytes → IsParts p
    → Feeds offset part (Ok tt) (parts_in p) (parts_in (record { fed = fed; lanes = p.lanes; bytes = bytes })) × IsParts (record { fed = fed; lanes = p.lanes; bytes = bytes })
fed_goes p offset fed part bytes old new room is feeds count made parts =
    let short = fed_fits p offset part old new is feeds parts in
    let same = fed_is p offset fed part bytes old new (omega (arith, room, parts.fed, parts.few)) (omega (arith, room, short)) is feeds count made in
    let lanes : p.lanes ≡ new.lanes = sym (ap (λ (s : PartsState). s.lanes) feeds.1 ∙ ap (λ (s : PartsState). s.lanes) is) in
    let now : new ≡ parts_in (record { fed = fed; lanes = p.lanes; bytes = bytes }) = sym (λ k. record { lanes = lanes k; bytes = same k }) in
    let goes : Feeds offset part (Ok tt) (parts_in p) (parts_in (record { fed = fed; lanes = p.lanes; bytes = bytes }))
    = subst (λ (s : PartsState). Feeds offset part (Ok tt) (parts_in p) s) now (subst (λ (s : PartsState). Feeds offset part (Ok tt) s new) is feeds) in
    let most = begun_size p.lanes (take fed bytes) goes.2 in
    (goes, record { some = parts.some; few = parts.few; fed = omega (arith, most, count, ap length same); begin = goes.2 })

-- A part of more bytes than any image has is refused as its first bytes are.
pub long_part : (offset : ℕ) (part : List ℕ) (r : Result (Unit {0}) PartRefusal) (old new : PartsState) → old.lanes ≤ 8 → 265 < length part → Feeds offset (take 265 part) r old new → Feeds offset part r old new
long_part offset part (Ok x) old new few long feeds =
    let size : length new.bytes ≡ offset + length (take 265 part)
    = ap (λ (s : PartsState). length s.bytes) feeds.1 ∙ length-append (kept offset old.bytes) (take 265 part) ∙ ap (λ n. n + length (take 265 part)) feeds.0 in
    let most = begun_size old.lanes new.bytes feeds.2 in
    let first = length-take-le 265 part (omega arith) in
    absurd (omega (arith, size, most, first, few))
long_part offset part (Err BadSequence) old new few long feeds = feeds
long_part offset part (Err TooLong) old new few long feeds =
    let first = length-take-le 265 part (omega arith) in
    let over = feeds.1 in
    (feeds.0, omega (arith, first, over), feeds.2)
long_part offset part (Err (BadImage place)) old new few long feeds =
    let first = length-take-le 265 part (omega arith) in
    let within = feeds.1 in
    absurd (omega (arith, first, within, few))
