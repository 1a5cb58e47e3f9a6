-- Acts: the words that are read are those of the act, and its words are read again, have their form, and make its line.
use Rattle.std.proofs.Common.{◌≡◌, ℕ, zero, suc, ◌+◌, ◌-◌, ◌/◌, ◌^◌, ◌<◌, ◌≤◌, true, false, ◌&&◌, cond, eqb, ltb, leb, is_some, List, [], ◌∷◌, ◌++◌, length, set, take, drop, replicate, slice_index, codes, Option, Some, None, refl, sym, ap, subst, ◌∙◌, append_assoc, arith, inl, inr, decimal}
use Rattle.std.specs.Prelude.{map}
use Rattle.std.specs.List.{AllByRecursion, All, flat_map}
use Rattle.std.specs.Str.{bytes_eq}
use Rattle.std.proofs.lemmas.Bool.{ltb-true, lt-ltb, leb-true, le-leb, eqb-false, ne_eqb, and_parts, and_from}
use Rattle.std.proofs.lemmas.List.{append-nil, take_at, take_more_set, drop-set-lt, drop-replicate, take-append-drop, length-set, length-append, length-replicate, length-take-le}
use Rattle.std.proofs.lemmas.List.Elements.{All-from_recursion, recursion_from_All, All-take, All-append, All-replicate}
use Rattle.hex.specs.Hex.{encode_lower, lower_digits}
use Rattle.hex.proofs.HexLemmas.{length-encode_with}
use Rattle.nvm_values.specs.declared.op.Op.{Op}
use Rattle.nvm_values.specs.declared.op.Op.TheVariants.{Flush, Write, Read, Compare, WriteZeroes, Verify}
use Rattle.nvm_model.specs.declared.script.Act.{Act}
use Rattle.nvm_model.specs.declared.script.Act.TheVariants.{Fill, Poke, List as PrpList, Submit, Raw, Wait, Idle}
use Rattle.nvm_model.specs.declared.script.Head.{Head}
use Rattle.nvm_model.specs.World.{set_of}
use Rattle.nvm_model.specs.ScriptText.{act_line, op_word, page_word, IsPage, IsAct, IsActLine}
use Rattle.script.specs.declared.form.Piece.TheVariants.{Maybe}
use Rattle.script.specs.Words.{◌>>=◌, next, last, number_in, ranged_in, page_in, option_in, bytes_in, op_in, is_numeral, is_row}
use Rattle.script.specs.ActWords.{fill_in, place_in, poke_in, pages_on, list_in, SubmitWords, submit_words, submit_of, submit_in, raw_in, bare_in, act_in, line_in, act_form, kind_form, is_act_form}
use Rattle.script.proofs.WordLaws.{bind_some, bind_step, some_is, chosen, IsPlain, spaced}
use Rattle.script.proofs.ValueLaws.{number_takes, number_again, numeral_again, ranged_takes, ranged_again, page_takes, page_again, decimal_plain, AreBytesIn, bytes_take, bytes_again, hex_again, hex_plain, is_text, page_text, IsBelow, option_takes, option_again, option_form, option_plain, op_text, op_takes, op_again, op_plain}

-- an act's words
abbrev pub act_words : Act → List (List ℕ)
act_words (Fill page byte) = codes "fill" ∷ decimal page ∷ encode_lower (byte ∷ []) ∷ []
act_words (Poke page at bytes used) = codes "poke" ∷ decimal page ∷ decimal at ∷ encode_lower (take used bytes) ∷ []
act_words (PrpList page named used) = codes "list" ∷ decimal page ∷ map decimal (take used named)
act_words (Submit cid op slba count p1 p2) = codes "submit" ∷ decimal cid ∷ op_text op ∷ decimal slba ∷ decimal count ∷ page_text p1 ∷ page_text p2 ∷ []
act_words (Raw entry) = codes "raw" ∷ encode_lower entry ∷ []
act_words Wait = codes "wait" ∷ []
act_words Idle = codes "idle" ∷ []

page_below : (pages : ℕ) (p : Option ℕ) → IsPage pages p → IsBelow pages p
page_below pages None f = tt
page_below pages (Some p) f = f

below_page : (pages : ℕ) (p : Option ℕ) → IsBelow pages p → IsPage pages p
below_page pages None f = tt
below_page pages (Some p) f = f

-- ---- what is read is spelled so

pub next_takes : (ws : List (List ℕ)) (x : List ℕ × List (List ℕ)) → next ws ≡ Some x → ws ≡ x.0 ∷ x.1
next_takes [] x e = absurd cc
next_takes (w ∷ ws) x e = let same : (w, ws) ≡ x = some_is (w, ws) x e in ap (λ (y : List ℕ × List (List ℕ)). y.0 ∷ y.1) same

pub last_takes : (ws : List (List ℕ)) (w : List ℕ) → last ws ≡ Some w → ws ≡ w ∷ []
last_takes [] w e = absurd cc
last_takes (v ∷ []) w e = ap (λ (u : List ℕ). u ∷ []) (some_is v w e)
last_takes (v ∷ u ∷ ws) w e = absurd cc

-- what holds of the value that a step made holds of the value that it gave
carried : {A : Type 0} (P : A → Type 0) (made x : A) → Some made ≡ Some x → P made → P x
carried P made x e p = subst P (some_is made x e) p

abbrev Spells : ℕ → List ℕ → List (List ℕ) → Act → Type 0
Spells pages kind ws a = (kind ∷ ws ≡ act_words a) × IsAct pages a

one_byte : (bs : List ℕ) → length bs ≡ 1 → AllByRecursion (λ b. b < 2 ^ 8) bs → (bs ≡ slice_index bs 0 ∷ []) × (slice_index bs 0 < 2 ^ 8)
one_byte [] count small = absurd (omega arith)
one_byte (b ∷ []) count small = (refl, small.0)
one_byte (b ∷ c ∷ bs) count small = absurd (omega arith)

fill_takes : (pages : ℕ) (ws : List (List ℕ)) (a : Act) → fill_in pages ws ≡ Some a → Spells pages (codes "fill") ws a
unfolding fill_in
fill_takes pages ws a e =
    let w = bind_some (next ws) _ a e in
    let v = bind_some (last w.0.1) _ a w.2 in
    let p = bind_some (page_in pages w.0.0) _ a v.2 in
    let b = bind_some (bytes_in 1 v.0) _ a p.2 in
    let e0 = next_takes ws w.0 w.1 in
    let e1 = last_takes w.0.1 v.0 v.1 in
    let tp = page_takes pages w.0.0 p.0 p.1 in
    let tb = bytes_take 1 v.0 b.0 b.1 in
    let one = one_byte b.0 tb.count tb.small in
    let hex : v.0 ≡ encode_lower (slice_index b.0 0 ∷ []) = tb.text ∙ ap encode_lower one.0 in
    subst (λ (x : Act). Spells pages (codes "fill") ws x) (some_is (Fill p.0 (slice_index b.0 0)) a b.2) (cc (e0, e1, tp.0, hex), (tp.1, one.1))

bounds : (low high n : ℕ) → leb low n && leb n high ≡ true → (low ≤ n) × (n ≤ high)
bounds low high n e = let p = and_parts (leb low n) (leb n high) e in (leb-true low n p.0, leb-true n high p.1)

poked : (pages page at used : ℕ) (ws : List (List ℕ)) (digits bs : List ℕ) → ws ≡ decimal page ∷ decimal at ∷ digits ∷ [] → page < pages → at ≤ 4096 - used → 1 ≤ used → used ≤ 32 → AreBytesIn used digits bs
    → Spells pages (codes "poke") ws (Poke page at (bs ++ replicate (32 - used) 0) used)
poked pages page at used ws digits bs e low fits some few b =
    let count = b.count in
    let front : take used (bs ++ replicate (32 - used) 0) ≡ bs = take_at bs (replicate (32 - used) 0) used count in
    let small : All (λ byte. byte < 2 ^ 8) (bs ++ replicate (32 - used) 0) =
    All-append (λ byte. byte < 2 ^ 8) bs (replicate (32 - used) 0) (All-from_recursion (λ byte. byte < 2 ^ 8) bs b.small) (All-replicate (λ byte. byte < 2 ^ 8) (32 - used) 0 (omega arith)) in
    let long = length-append bs (replicate (32 - used) 0) in
    let zeros = length-replicate {A = ℕ} (32 - used) 0 in
    let hex : digits ≡ encode_lower (take used (bs ++ replicate (32 - used) 0)) = b.text ∙ ap encode_lower (sym front) in (
      ap (λ (t : List (List ℕ)). codes "poke" ∷ t) e ∙ ap (λ (t : List ℕ). codes "poke" ∷ decimal page ∷ decimal at ∷ t ∷ []) hex,
      (low, omega arith, some, few, small, ap (λ (t : List ℕ). t ++ replicate (32 - used) 0) (sym front), omega (arith, long, zeros, count)),
    )

poke_takes : (pages : ℕ) (ws : List (List ℕ)) (a : Act) → poke_in pages ws ≡ Some a → Spells pages (codes "poke") ws a
unfolding poke_in
poke_takes pages ws a e =
    let w = bind_some (next ws) _ a e in
    let v = bind_some (next w.0.1) _ a w.2 in
    let d = bind_some (last v.0.1) _ a v.2 in
    let digits : List ℕ = d.0 in
    let used : ℕ = length digits / 2 in
    elim (chosen (leb 1 used && leb used 32) (page_in pages w.0.0 >>= λ page. place_in used v.0.0 >>= λ at. bytes_in used digits >>= λ bytes. Some (Poke page at (bytes ++ drop used (replicate 32 0)) used)) None (Some a) d.2) [
      | inl h ↦
          let p = bind_some (page_in pages w.0.0) _ a h.1 in
          let l = bind_some (place_in used v.0.0) _ a p.2 in
          let b = bind_some (bytes_in used digits) _ a l.2 in
          let e0 = next_takes ws w.0 w.1 in
          let e1 = next_takes w.0.1 v.0 v.1 in
          let e2 = last_takes v.0.1 digits d.1 in
          let tp = page_takes pages w.0.0 p.0 p.1 in
          let tl = ranged_takes 0 (4096 - used) v.0.0 l.0 l.1 in
          let few = bounds 1 32 used h.0 in
          let zeros : drop used (replicate 32 0) ≡ replicate (32 - used) 0 = drop-replicate used 32 0 in
          subst (λ (x : Act). Spells pages (codes "poke") ws x) (ap (λ (z : List ℕ). Poke p.0 l.0 (b.0 ++ z) used) (sym zeros) ∙ some_is (Poke p.0 l.0 (b.0 ++ drop used (replicate 32 0)) used) a b.2)
          (poked pages p.0 l.0 used ws digits b.0 (cc (e0, e1, e2, tp.0, tl.0)) tp.1 tl.2 few.0 few.1 (bytes_take used digits b.0 b.1))
      | inr h ↦ absurd cc
    ]

-- pages that were put behind others
record AreNamed (pages : ℕ) (found : List ℕ) (used : ℕ) (ws : List (List ℕ)) (x : List ℕ × ℕ) : Type 0 where
  named : List ℕ
  words : ws ≡ map decimal named
  count : x.1 ≡ used + length named
  few : x.1 ≤ 8
  front : take x.1 x.0 ≡ take used found ++ named
  behind : drop x.1 x.0 ≡ drop x.1 found
  long : length x.0 ≡ length found
  fit : AllByRecursion (λ p. p < pages) named

pages_take : (pages : ℕ) (ws : List (List ℕ)) (found : List ℕ) (used : ℕ) (x : List ℕ × ℕ) → length found ≡ 8 → used ≤ 8 → pages_on pages found used ws ≡ Some x → AreNamed pages found used ws x
unfolding pages_on
pages_take pages [] found used x eight le e =
    subst (λ (y : List ℕ × ℕ). AreNamed pages found used [] y) (some_is (found, used) x e)
    (record { named = []; words = refl; count = omega arith; few = le; front = sym (append-nil (take used found)); behind = refl; long = refl; fit = tt })
pages_take pages (w ∷ ws) found used x eight le e =
    elim (chosen (ltb used 8) (page_in pages w >>= λ p. pages_on pages (set found used p) (used + 1) ws) None (Some x) e) [
      | inl h ↦
          let lt = ltb-true used 8 h.0 in
          let p = bind_some (page_in pages w) _ x h.1 in
          let tp = page_takes pages w p.0 p.1 in
          let more = pages_take pages ws (set found used p.0) (used + 1) x (length-set found used p.0 ∙ eight) (omega arith) p.2 in
          let count = more.count in
          record {
            named = p.0 ∷ more.named;
            words = cc (tp.0, more.words);
            count = omega (arith, count);
            few = more.few;
            front = more.front ∙ ap (λ (t : List ℕ). t ++ more.named) (take_more_set found used p.0 (omega arith)) ∙ append_assoc (take used found) (p.0 ∷ []) more.named;
            behind = more.behind ∙ drop-set-lt x.1 found used p.0 (omega (arith, count));
            long = more.long ∙ length-set found used p.0;
            fit = (tp.1, more.fit);
          }
      | inr h ↦ absurd cc
    ]

listed : (pages page : ℕ) (ws : List (List ℕ)) (x : List ℕ × ℕ) → page < pages → (x.1 ≡ 0 → ⊥) → AreNamed pages (replicate 8 0) 0 ws x → Spells pages (codes "list") (decimal page ∷ ws) (PrpList page x.0 x.1)
listed pages page ws x low some n =
    let front = n.front in
    let count = n.count in
    let zeros : drop x.1 x.0 ≡ replicate (8 - x.1) 0 = n.behind ∙ drop-replicate x.1 8 0 in (
      ap (λ (t : List (List ℕ)). codes "list" ∷ decimal page ∷ t) (n.words ∙ ap (λ (t : List ℕ). map decimal t) (sym front)),
      (low, omega (arith, some), n.few, subst (λ (t : List ℕ). All (λ p. p < pages) t) (sym front) (All-from_recursion (λ p. p < pages) n.named n.fit), sym (take-append-drop x.1 x.0) ∙ ap (λ (t : List ℕ). take x.1 x.0 ++ t) zeros, n.long),
    )

list_takes : (pages : ℕ) (ws : List (List ℕ)) (a : Act) → list_in pages ws ≡ Some a → Spells pages (codes "list") ws a
unfolding list_in
list_takes pages ws a e =
    let w = bind_some (next ws) _ a e in
    let p = bind_some (page_in pages w.0.0) _ a w.2 in
    let n = bind_some (pages_on pages (replicate 8 0) 0 w.0.1) _ a p.2 in
    elim (chosen (eqb n.0.1 0) None (Some (PrpList p.0 n.0.0 n.0.1)) (Some a) n.2) [
      | inl h ↦ absurd cc
      | inr h ↦
          let tp = page_takes pages w.0.0 p.0 p.1 in
          let e0 = next_takes ws w.0 w.1 in
          let words : ws ≡ decimal p.0 ∷ w.0.1 = cc (e0, tp.0) in
          subst (λ (x : Act). Spells pages (codes "list") ws x) (some_is (PrpList p.0 n.0.0 n.0.1) a h.1)
          (subst (λ (t : List (List ℕ)). Spells pages (codes "list") t (PrpList p.0 n.0.0 n.0.1)) (sym words)
          (listed pages p.0 w.0.1 n.0 tp.1 (eqb-false n.0.1 0 h.0) (pages_take pages w.0.1 (replicate 8 0) 0 n.0 refl (omega arith) n.1)))
    ]

submit_words_take : (ws : List (List ℕ)) (x : SubmitWords) → submit_words ws ≡ Some x → ws ≡ x.cid ∷ x.op ∷ x.slba ∷ x.count ∷ x.p1 ∷ x.p2 ∷ []
submit_words_take [] x e = absurd cc
submit_words_take (a ∷ []) x e = absurd cc
submit_words_take (a ∷ b ∷ []) x e = absurd cc
submit_words_take (a ∷ b ∷ c ∷ []) x e = absurd cc
submit_words_take (a ∷ b ∷ c ∷ d ∷ []) x e = absurd cc
submit_words_take (a ∷ b ∷ c ∷ d ∷ p ∷ []) x e = absurd cc
submit_words_take (a ∷ b ∷ c ∷ d ∷ p ∷ q ∷ []) x e = ap (λ (w : SubmitWords). w.cid ∷ w.op ∷ w.slba ∷ w.count ∷ w.p1 ∷ w.p2 ∷ []) (some_is (record { cid = a; op = b; slba = c; count = d; p1 = p; p2 = q }) x e)
submit_words_take (a ∷ b ∷ c ∷ d ∷ p ∷ q ∷ r ∷ ws) x e = absurd cc

submit_of_takes : (pages : ℕ) (x : SubmitWords) (a : Act) → submit_of pages x ≡ Some a → Spells pages (codes "submit") (x.cid ∷ x.op ∷ x.slba ∷ x.count ∷ x.p1 ∷ x.p2 ∷ []) a
submit_of_takes pages x a h =
    let cid = bind_some (ranged_in 0 65535 x.cid) (λ (c : ℕ). op_in x.op >>= λ o. number_in x.slba >>= λ s. ranged_in 1 65536 x.count >>= λ n. option_in pages x.p1 >>= λ p. option_in pages x.p2 >>= λ q. Some (Submit c o s n p q)) a h in
    let op = bind_some (op_in x.op) (λ (o : Op). number_in x.slba >>= λ s. ranged_in 1 65536 x.count >>= λ n. option_in pages x.p1 >>= λ p. option_in pages x.p2 >>= λ q. Some (Submit cid.0 o s n p q)) a cid.2 in
    let slba = bind_some (number_in x.slba) (λ (s : ℕ). ranged_in 1 65536 x.count >>= λ n. option_in pages x.p1 >>= λ p. option_in pages x.p2 >>= λ q. Some (Submit cid.0 op.0 s n p q)) a op.2 in
    let count = bind_some (ranged_in 1 65536 x.count) (λ (n : ℕ). option_in pages x.p1 >>= λ p. option_in pages x.p2 >>= λ q. Some (Submit cid.0 op.0 slba.0 n p q)) a slba.2 in
    let p1 = bind_some (option_in pages x.p1) (λ (p : Option ℕ). option_in pages x.p2 >>= λ q. Some (Submit cid.0 op.0 slba.0 count.0 p q)) a count.2 in
    let p2 = bind_some (option_in pages x.p2) (λ (q : Option ℕ). Some (Submit cid.0 op.0 slba.0 count.0 p1.0 q)) a p1.2 in
    let t0 = ranged_takes 0 65535 x.cid cid.0 cid.1 in
    let t1 = op_takes x.op op.0 op.1 in
    let t2 = number_takes x.slba slba.0 slba.1 in
    let t3 = ranged_takes 1 65536 x.count count.0 count.1 in
    let t4 = option_takes pages x.p1 p1.0 p1.1 in
    let t5 = option_takes pages x.p2 p2.0 p2.1 in
    let few = t0.2 in
    carried (Spells pages (codes "submit") (x.cid ∷ x.op ∷ x.slba ∷ x.count ∷ x.p1 ∷ x.p2 ∷ [])) (Submit cid.0 op.0 slba.0 count.0 p1.0 p2.0) a p2.2
    (cc (t0.0, t1, t2.0, t3.0, t4.0, t5.0), (omega arith, t2.1, t3.1, t3.2, below_page pages p1.0 t4.1, below_page pages p2.0 t5.1))

submit_takes : (pages : ℕ) (ws : List (List ℕ)) (a : Act) → submit_in pages ws ≡ Some a → Spells pages (codes "submit") ws a
unfolding submit_in
submit_takes pages ws a h =
    let x = bind_some (submit_words ws) (submit_of pages) a h in
    subst (λ (t : List (List ℕ)). Spells pages (codes "submit") t a) (sym (submit_words_take ws x.0 x.1)) (submit_of_takes pages x.0 a x.2)

raw_takes : (pages : ℕ) (ws : List (List ℕ)) (a : Act) → raw_in ws ≡ Some a → Spells pages (codes "raw") ws a
unfolding raw_in
raw_takes pages ws a e =
    let w = bind_some (last ws) _ a e in
    let b = bind_some (bytes_in 64 w.0) _ a w.2 in
    let e0 = last_takes ws w.0 w.1 in
    let t = bytes_take 64 w.0 b.0 b.1 in
    subst (λ (x : Act). Spells pages (codes "raw") ws x) (some_is (Raw b.0) a b.2) (cc (e0, t.text), (t.count, All-from_recursion (λ byte. byte < 2 ^ 8) b.0 t.small))

-- by the word of an act, or by those that come after
kinded : (pages : ℕ) (kind name : List ℕ) (ws : List (List ℕ)) (a : Act) (here other : Option Act) → cond (bytes_eq kind name) here other ≡ Some a → (here ≡ Some a → Spells pages name ws a) → (other ≡ Some a → Spells pages kind ws a) → Spells pages kind ws a
kinded pages kind name ws a here other e f g =
    elim (chosen (bytes_eq kind name) here other (Some a) e) [
      | inl h ↦ subst (λ (k : List ℕ). Spells pages k ws a) (sym (is_text kind name h.0)) (f h.1)
      | inr h ↦ g h.1
    ]

bare_takes : (pages : ℕ) (kind : List ℕ) (ws : List (List ℕ)) (a : Act) → bare_in kind (next ws) ≡ Some a → Spells pages kind ws a
bare_takes pages kind [] a e =
    kinded pages kind (codes "wait") [] a (Some Wait) _ e (λ h. subst (λ (x : Act). Spells pages (codes "wait") [] x) (some_is Wait a h) (refl, tt))
    (λ e1. kinded pages kind (codes "idle") [] a (Some Idle) None e1 (λ h. subst (λ (x : Act). Spells pages (codes "idle") [] x) (some_is Idle a h) (refl, tt)) (λ e2. absurd cc))
bare_takes pages kind (w ∷ ws) a e = absurd cc

act_takes : (pages : ℕ) (kind : List ℕ) (ws : List (List ℕ)) (a : Act) → act_in pages kind ws ≡ Some a → Spells pages kind ws a
unfolding act_in
act_takes pages kind ws a e =
    kinded pages kind (codes "fill") ws a (fill_in pages ws) _ e (fill_takes pages ws a) (λ e1.
    kinded pages kind (codes "poke") ws a (poke_in pages ws) _ e1 (poke_takes pages ws a) (λ e2.
    kinded pages kind (codes "list") ws a (list_in pages ws) _ e2 (list_takes pages ws a) (λ e3.
    kinded pages kind (codes "submit") ws a (submit_in pages ws) _ e3 (submit_takes pages ws a) (λ e4.
    kinded pages kind (codes "raw") ws a (raw_in ws) _ e4 (raw_takes pages ws a) (bare_takes pages kind ws a)))))

-- the words of a line are those of its act, which is in range
pub line_takes : (head : Head) (ws : List (List ℕ)) (a : ℕ × Act) → line_in head ws ≡ Some a → (ws ≡ decimal a.0 ∷ act_words a.1) × IsActLine head a
unfolding line_in
line_takes head ws a e =
    let w = bind_some (next ws) _ a e in
    let v = bind_some (next w.0.1) _ a w.2 in
    let k = bind_some (ranged_in 1 head.lanes w.0.0) _ a v.2 in
    let act = bind_some (act_in (set_of head k.0).pages v.0.0 v.0.1) _ a k.2 in
    let e0 = next_takes ws w.0 w.1 in
    let e1 = next_takes w.0.1 v.0 v.1 in
    let tk = ranged_takes 1 head.lanes w.0.0 k.0 k.1 in
    let ta = act_takes (set_of head k.0).pages v.0.0 v.0.1 act.0 act.1 in
    subst (λ (x : ℕ × Act). (ws ≡ decimal x.0 ∷ act_words x.1) × IsActLine head x) (some_is (k.0, act.0) a act.2) (cc (e0, e1, tk.0, ta.0), (tk.1, tk.2, ta.1))

-- ---- what is spelled so is read, and has its form

pages_again : (pages : ℕ) (ps found : List ℕ) (used : ℕ) → pages < 2 ^ 64 → length found ≡ 8 → used + length ps ≤ 8 → AllByRecursion (λ p. p < pages) ps
    → pages_on pages found used (map decimal ps) ≡ Some (take used found ++ ps ++ drop (used + length ps) found, used + length ps)
unfolding pages_on
pages_again pages [] found used small eight few fit =
    let none : used + 0 ≡ used = omega arith in
    rw none (ap (λ (t : List ℕ). Some (t, used)) (sym (take-append-drop used found) ∙ ap (λ (t : List ℕ). t ++ drop used found) (sym (append-nil (take used found)))))
pages_again pages (p ∷ ps) found used small eight few fit =
    let room : ltb used 8 ≡ true = lt-ltb used 8 (omega arith) in
    let count : used + 1 + length ps ≡ used + suc (length ps) = omega arith in
    let front : take (used + 1) (set found used p) ≡ take used found ++ p ∷ [] = take_more_set found used p (omega arith) in
    let kept : drop (used + suc (length ps)) (set found used p) ≡ drop (used + suc (length ps)) found = drop-set-lt (used + suc (length ps)) found used p (omega arith) in
    rw room
    (bind_step (page_in pages (decimal p)) _ p _ (page_again pages p small fit.0)
    (pages_again pages ps (set found used p) (used + 1) small (length-set found used p ∙ eight) (omega arith) fit.1
    ∙ ap (λ (n : ℕ). Some (take (used + 1) (set found used p) ++ ps ++ drop n (set found used p), n)) count
    ∙ ap (λ (t : List ℕ). Some (t ++ ps ++ drop (used + suc (length ps)) (set found used p), used + suc (length ps))) front
    ∙ ap (λ (t : List ℕ). Some (t ++ drop (used + suc (length ps)) (set found used p), used + suc (length ps))) (append_assoc (take used found) (p ∷ []) ps)
    ∙ ap (λ (t : List ℕ). Some (take used found ++ p ∷ ps ++ t, used + suc (length ps))) kept))

list_again : (pages page : ℕ) (named : List ℕ) (used : ℕ) → pages < 2 ^ 64 → IsAct pages (PrpList page named used) → list_in pages (decimal page ∷ map decimal (take used named)) ≡ Some (PrpList page named used)
unfolding list_in
list_again pages page named used small f =
    let some = f.1 in
    let few = f.2 in
    let long = f.5 in
    let ps : List ℕ = take used named in
    let count : length ps ≡ used = length-take-le used named (omega (arith, long)) in
    let read = pages_again pages ps (replicate 8 0) 0 small refl (omega (arith, count)) (recursion_from_All (λ p. p < pages) ps f.3) in
    let behind : drop (0 + length ps) (replicate 8 0) ≡ replicate (8 - used) 0 = drop-replicate (0 + length ps) 8 0 ∙ let n : 8 - (0 + length ps) ≡ 8 - used = omega (arith, count) in ap (λ (k : ℕ). replicate k 0) n in
    let all : ps ++ drop (0 + length ps) (replicate 8 0) ≡ named = ap (λ (t : List ℕ). ps ++ t) behind ∙ sym f.4 in
    let same : (ps ++ drop (0 + length ps) (replicate 8 0), 0 + length ps) ≡ (named, used) = let n : 0 + length ps ≡ used = omega (arith, count) in ap (λ (t : List ℕ). (t, 0 + length ps)) all ∙ ap (λ (k : ℕ). (named, k)) n in
    let more : eqb used 0 ≡ false = ne_eqb used 0 (λ z. omega arith) in
    bind_step (page_in pages (decimal page)) _ page _ (page_again pages page small f.0)
    (bind_step (pages_on pages (replicate 8 0) 0 (map decimal ps)) _ (named, used) _ (read ∙ ap Some same) (rw more refl))

poke_again : (pages page at : ℕ) (bytes : List ℕ) (used : ℕ) → pages < 2 ^ 64 → IsAct pages (Poke page at bytes used) → poke_in pages (decimal page ∷ decimal at ∷ encode_lower (take used bytes) ∷ []) ≡ Some (Poke page at bytes used)
unfolding poke_in
poke_again pages page at bytes used small f =
    let place = f.1 in
    let some = f.2 in
    let few = f.3 in
    let long = f.6 in
    let bs : List ℕ = take used bytes in
    let fit : AllByRecursion (λ byte. byte < 2 ^ 8) bs = recursion_from_All (λ byte. byte < 2 ^ 8) bs (All-take (λ byte. byte < 2 ^ 8) used bytes f.4) in
    let count : length bs ≡ used = length-take-le used bytes (omega (arith, long)) in
    let digits = length-encode_with lower_digits bs in
    let half : length (encode_lower bs) / 2 ≡ used = omega (arith, digits, count) in
    rw (half, le-leb 1 used some, le-leb used 32 few)
    (bind_step (page_in pages (decimal page)) _ page _ (page_again pages page small f.0)
    (bind_step (place_in used (decimal at)) _ at _ (ranged_again 0 (4096 - used) at (omega arith) (omega arith) (omega arith))
    (bind_step (bytes_in used (encode_lower bs)) _ bs _ (bytes_again used bs count fit) (ap (λ (z : List ℕ). Some (Poke page at (bs ++ z) used)) (drop-replicate used 32 0) ∙ ap (λ (t : List ℕ). Some (Poke page at t used)) (sym f.5)))))

submit_again : (pages cid : ℕ) (op : Op) (slba count : ℕ) (p1 p2 : Option ℕ) → pages < 2 ^ 64 → IsAct pages (Submit cid op slba count p1 p2)
    → submit_in pages (decimal cid ∷ op_text op ∷ decimal slba ∷ decimal count ∷ page_text p1 ∷ page_text p2 ∷ []) ≡ Some (Submit cid op slba count p1 p2)
unfolding submit_in
submit_again pages cid op slba count p1 p2 small f =
    let few = f.0 in
    let most = f.3 in
    bind_step (ranged_in 0 65535 (decimal cid)) _ cid _ (ranged_again 0 65535 cid (omega arith) (omega arith) (omega arith))
    (bind_step (op_in (op_text op)) _ op _ (op_again op)
    (bind_step (number_in (decimal slba)) _ slba _ (number_again slba f.1)
    (bind_step (ranged_in 1 65536 (decimal count)) _ count _ (ranged_again 1 65536 count (omega arith) f.2 f.3)
    (bind_step (option_in pages (page_text p1)) _ p1 _ (option_again pages p1 small (page_below pages p1 f.4))
    (bind_step (option_in pages (page_text p2)) _ p2 _ (option_again pages p2 small (page_below pages p2 f.5)) refl)))))

fill_again : (pages page byte : ℕ) → pages < 2 ^ 64 → IsAct pages (Fill page byte) → fill_in pages (decimal page ∷ encode_lower (byte ∷ []) ∷ []) ≡ Some (Fill page byte)
unfolding fill_in
fill_again pages page byte small f =
    bind_step (page_in pages (decimal page)) _ page _ (page_again pages page small f.0)
    (bind_step (bytes_in 1 (encode_lower (byte ∷ []))) _ (byte ∷ []) _ (bytes_again 1 (byte ∷ []) refl (f.1, tt)) refl)

raw_again : (pages : ℕ) (entry : List ℕ) → IsAct pages (Raw entry) → raw_in (encode_lower entry ∷ []) ≡ Some (Raw entry)
unfolding raw_in
raw_again pages entry f = bind_step (bytes_in 64 (encode_lower entry)) _ entry _ (bytes_again 64 entry f.0 (recursion_from_All (λ byte. byte < 2 ^ 8) entry f.1)) refl

abbrev words_act : ℕ → Option (List ℕ × List (List ℕ)) → Option Act
words_act pages None = None
words_act pages (Some x) = act_in pages x.0 x.1

act_again : (pages : ℕ) (a : Act) → pages < 2 ^ 64 → IsAct pages a → words_act pages (next (act_words a)) ≡ Some a
unfolding act_in
act_again pages (Fill page byte) small f = fill_again pages page byte small f
act_again pages (Poke page at bytes used) small f = poke_again pages page at bytes used small f
act_again pages (PrpList page named used) small f = list_again pages page named used small f
act_again pages (Submit cid op slba count p1 p2) small f = submit_again pages cid op slba count p1 p2 small f
act_again pages (Raw entry) small f = raw_again pages entry f
act_again pages Wait small f = refl
act_again pages Idle small f = refl

abbrev laned : ℕ → Act → Option (ℕ × Act)
laned k a = Some (k, a)

behind_lane : (head : Head) (k : ℕ) (a : Act) (ws : List (List ℕ)) → words_act (set_of head k).pages (next ws) ≡ Some a → (next ws >>= λ x. act_in (set_of head k).pages x.0 x.1 >>= laned k) ≡ Some (k, a)
behind_lane head k a [] e = absurd cc
behind_lane head k a (w ∷ ws) e = bind_step (act_in (set_of head k).pages w ws) _ a (Some (k, a)) e refl

turned : (head : Head) (a : ℕ × Act) (ws : List (List ℕ)) → ranged_in 1 head.lanes (decimal a.0) ≡ Some a.0 → (next ws >>= λ x. act_in (set_of head a.0).pages x.0 x.1 >>= laned a.0) ≡ Some a
    → (next ws >>= λ x. ranged_in 1 head.lanes (decimal a.0) >>= λ lane. act_in (set_of head lane).pages x.0 x.1 >>= laned lane) ≡ Some a
turned head a [] e f = absurd cc
turned head a (w ∷ ws) e f = bind_step (ranged_in 1 head.lanes (decimal a.0)) _ a.0 (Some a) e f

pub line_again : (head : Head) (a : ℕ × Act) → head.lanes ≤ 8 → (set_of head a.0).pages < 2 ^ 64 → IsActLine head a → line_in head (decimal a.0 ∷ act_words a.1) ≡ Some a
unfolding line_in
line_again head a few small f =
    let high = f.1 in
    turned head a (act_words a.1) (ranged_again 1 head.lanes a.0 (omega arith) f.0 f.1) (behind_lane head a.0 a.1 (act_words a.1) (act_again (set_of head a.0).pages a.1 small f.2))

-- ---- forms

maybe_row : (pages n : ℕ) (ps : List ℕ) → pages < 2 ^ 64 → length ps ≤ n → AllByRecursion (λ p. p < pages) ps → is_row (replicate n Maybe) (map decimal ps) ≡ true
unfolding is_row
maybe_row pages zero [] small few fit = refl
maybe_row pages (suc n) [] small few fit = maybe_row pages n [] small (omega arith) tt
maybe_row pages zero (p ∷ ps) small few fit = absurd (omega arith)
maybe_row pages (suc n) (p ∷ ps) small few fit =
    let first = fit.0 in
    and_from (is_numeral (decimal p)) (is_row (replicate n Maybe) (map decimal ps)) (numeral_again p (omega arith)) (maybe_row pages n ps small (omega arith) fit.1)

listed_form : (pages page : ℕ) (ps : List ℕ) → pages < 2 ^ 64 → page < pages → 1 ≤ length ps → length ps ≤ 8 → AllByRecursion (λ p. p < pages) ps → act_form (codes "list") (decimal page ∷ map decimal ps) ≡ true
unfolding is_row
listed_form pages page [] small low some few fit = absurd (omega arith)
listed_form pages page (p ∷ ps) small low some few fit =
    let first = fit.0 in
    and_from _ _ (numeral_again page (omega arith)) (and_from _ _ (numeral_again p (omega arith)) (maybe_row pages 7 ps small (omega arith) fit.1))

form_again : (pages : ℕ) (a : Act) → pages < 2 ^ 64 → IsAct pages a → kind_form (next (act_words a)) ≡ true
unfolding is_row
form_again pages (Fill page byte) small f =
    let low = f.0 in
    and_from _ _ (numeral_again page (omega arith)) (and_from _ _ (hex_again 1 1 (byte ∷ []) (omega arith) (omega arith) (f.1, tt)) refl)
form_again pages (Poke page at bytes used) small f =
    let low = f.0 in
    let place = f.1 in
    let long = f.6 in
    let count : length (take used bytes) ≡ used = let few = f.3 in length-take-le used bytes (omega (arith, long)) in
    and_from _ _ (numeral_again page (omega arith)) (and_from _ _ (numeral_again at (omega arith))
    (and_from _ _ (hex_again 1 32 (take used bytes) (rw count f.2) (rw count f.3) (recursion_from_All (λ byte. byte < 2 ^ 8) (take used bytes) (All-take (λ byte. byte < 2 ^ 8) used bytes f.4))) refl))
form_again pages (PrpList page named used) small f =
    let long = f.5 in
    let count : length (take used named) ≡ used = let few = f.2 in length-take-le used named (omega (arith, long)) in
    listed_form pages page (take used named) small f.0 (rw count f.1) (rw count f.2) (recursion_from_All (λ p. p < pages) (take used named) f.3)
form_again pages (Submit cid op slba count p1 p2) small f =
    let few = f.0 in
    let most = f.3 in
    and_from _ _ (numeral_again cid (omega arith)) (and_from _ _ (ap is_some (op_again op)) (and_from _ _ (numeral_again slba f.1) (and_from _ _ (numeral_again count (omega arith))
    (and_from _ _ (option_form pages p1 small (page_below pages p1 f.4)) (and_from _ _ (option_form pages p2 small (page_below pages p2 f.5)) refl)))))
form_again pages (Raw entry) small f = let count = f.0 in and_from _ _ (hex_again 64 64 entry (omega arith) (omega arith) (recursion_from_All (λ byte. byte < 2 ^ 8) entry f.1)) refl
form_again pages Wait small f = refl
form_again pages Idle small f = refl

pub line_form_again : (k pages : ℕ) (a : Act) → k < 2 ^ 64 → pages < 2 ^ 64 → IsAct pages a → is_act_form (decimal k ∷ act_words a) ≡ true
line_form_again k pages a lt small f = and_from (is_numeral (decimal k)) (kind_form (next (act_words a))) (numeral_again k lt) (form_again pages a small f)

-- ---- the words are plain, and make the act's line

decimals_plain : (pages : ℕ) (ps : List ℕ) → pages < 2 ^ 64 → AllByRecursion (λ p. p < pages) ps → AllByRecursion IsPlain (map decimal ps)
decimals_plain pages [] small fit = tt
decimals_plain pages (p ∷ ps) small fit = let first = fit.0 in (decimal_plain p (omega arith), decimals_plain pages ps small fit.1)

pub act_plain : (pages : ℕ) (a : Act) → pages < 2 ^ 64 → IsAct pages a → AllByRecursion IsPlain (act_words a)
act_plain pages (Fill page byte) small f = let low = f.0 in (refl, (decimal_plain page (omega arith), (hex_plain (byte ∷ []) (f.1, tt), tt)))
act_plain pages (Poke page at bytes used) small f =
    let low = f.0 in
    let place = f.1 in
    (refl, (decimal_plain page (omega arith), (decimal_plain at (omega arith), (hex_plain (take used bytes) (recursion_from_All (λ byte. byte < 2 ^ 8) (take used bytes) (All-take (λ byte. byte < 2 ^ 8) used bytes f.4)), tt))))
act_plain pages (PrpList page named used) small f = let low = f.0 in (refl, (decimal_plain page (omega arith), decimals_plain pages (take used named) small (recursion_from_All (λ p. p < pages) (take used named) f.3)))
act_plain pages (Submit cid op slba count p1 p2) small f =
    let few = f.0 in
    let most = f.3 in
    (refl, (decimal_plain cid (omega arith), (op_plain op, (decimal_plain slba f.1, (decimal_plain count (omega arith), (option_plain pages p1 small (page_below pages p1 f.4), (option_plain pages p2 small (page_below pages p2 f.5), tt)))))))
act_plain pages (Raw entry) small f = (refl, (hex_plain entry (recursion_from_All (λ byte. byte < 2 ^ 8) entry f.1), tt))
act_plain pages Wait small f = (refl, tt)
act_plain pages Idle small f = (refl, tt)

op_word_is : (op : Op) (rest : List ℕ) → op_word op ++ rest ≡ op_text op ++ 32 ∷ rest
op_word_is Flush rest = refl
op_word_is Write rest = refl
op_word_is Read rest = refl
op_word_is Compare rest = refl
op_word_is WriteZeroes rest = refl
op_word_is Verify rest = refl

page_word_is : (p : Option ℕ) → page_word p ≡ page_text p
page_word_is None = refl
page_word_is (Some p) = refl

named_is : (ps : List ℕ) → flat_map (λ p. 32 ∷ decimal p) ps ≡ spaced (map decimal ps)
named_is [] = refl
named_is (p ∷ ps) = ap (λ (t : List ℕ). 32 ∷ (decimal p ++ t)) (named_is ps)

named_ends : (ps : List ℕ) → flat_map (λ p. 32 ∷ decimal p) ps ++ 10 ∷ [] ≡ spaced (map decimal ps) ++ 10 ∷ []
named_ends ps = ap (λ (t : List ℕ). t ++ 10 ∷ []) (named_is ps)

pub act_line_is : (k : ℕ) (a : Act) → act_line (k, a) ≡ (decimal k ++ spaced (act_words a)) ++ 10 ∷ []
act_line_is k (Fill page byte) = simp append_assoc
act_line_is k (Poke page at bytes used) = simp append_assoc
act_line_is k (PrpList page named used) = simp append_assoc (ap (λ (t : List ℕ). decimal k ++ 32 ∷ (codes "list" ++ 32 ∷ (decimal page ++ t))) (named_ends (take used named)))
act_line_is k (Submit cid op slba count p1 p2) = simp (append_assoc, op_word_is, page_word_is)
act_line_is k (Raw entry) = simp append_assoc
act_line_is k Wait = simp append_assoc
act_line_is k Idle = simp append_assoc
