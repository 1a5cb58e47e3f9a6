-- Lines: a line in range is read from its text.
use Rattle.std.proofs.Common.{◌≡◌, ℕ, ◌^◌, ◌<◌, Bool, true, false, eqb, List, [], ◌∷◌, ◌++◌, codes, Option, Some, None, refl, sym, ap, subst, ◌∙◌, append_assoc, arith}
use Rattle.nvm_values.specs.Status.{StatusPair}
use Rattle.nvm_model.specs.declared.command.Outcome.{Outcome}
use Rattle.nvm_model.specs.declared.line.Line.{Line}
use Rattle.nvm_model.specs.declared.line.Line.TheVariants as line
use Rattle.nvm_model.specs.Text.{field, last_field, status_text, outcome_text, digest_text, bit, line_text, IsLine, IsOutcome, IsDigest, HasForm}
use Rattle.transcript.specs.Reading.{◌>>=◌, or_else, field_at, lane_of, event_at, status_at, outcome_at, digest_at}
use Rattle.transcript.specs.Guess.{act_at, reap_at, fetch_at, piece_at, post_at, numbered_at, worded_at, guess_at}
use Rattle.transcript.proofs.Parts.{bind_step, last_again, field_again, lane_again, event_again, status_again, outcome_again, digest_again}

-- two numbers that end a line
pair_again : {A : Type 0} (make : ℕ → ℕ → A) (a b : ℕ) → a < 2 ^ 32 → b < 2 ^ 32 → make (field_at (field a ++ last_field b)).0 (field_at (field_at (field a ++ last_field b)).1).0 ≡ make a b
pair_again make a b la lb =
    ap (λ (x : ℕ × List ℕ). make x.0 (field_at x.1).0) (field_again a (last_field b) la)
    ∙ ap (λ (y : ℕ × List ℕ). make a y.0) (last_again b 10 [] lb refl)

act_again : (k n : ℕ) → IsLine (line.Act k n) → act_at (field k ++ last_field n) ≡ Some (line.Act k n)
unfolding act_at
act_again k n f =
    let high = f.1 in
    pair_again (λ a b. lane_of a >>= λ j. Some (line.Act j b)) k n (omega arith) f.2
    ∙ bind_step (lane_of k) _ k (Some (line.Act k n)) (lane_again k f.0 f.1) refl

parts4 : (a b c d : List ℕ) → a ++ b ++ c ++ d ≡ a ++ (b ++ (c ++ d))
parts4 a b c d = simp append_assoc

parts5 : (a b c d e : List ℕ) → a ++ b ++ c ++ d ++ e ≡ a ++ (b ++ (c ++ (d ++ e)))
parts5 a b c d e = simp append_assoc

parts6 : (a b c d e g : List ℕ) → a ++ b ++ c ++ d ++ e ++ g ≡ a ++ (b ++ (c ++ (d ++ (e ++ g))))
parts6 a b c d e g = simp append_assoc

bit_again : (phase : Bool) → eqb (bit phase) 1 ≡ phase
bit_again true = refl
bit_again false = refl

bit_small : (phase : Bool) → bit phase < 2 ^ 32
bit_small true = omega arith
bit_small false = omega arith

reap_again : (k cid : ℕ) (s : StatusPair) (head : ℕ) (phase : Bool) → IsLine (line.Reap k cid s head phase)
    → reap_at (field k ++ field cid ++ status_text s ++ codes " " ++ field head ++ last_field (bit phase)) ≡ Some (line.Reap k cid s head phase)
unfolding reap_at
reap_again k cid s head phase f =
    let r2 : List ℕ = field head ++ last_field (bit phase) in
    let r1 : List ℕ = status_text s ++ 32 ∷ r2 in
    let made : Option Line = Some (line.Reap k cid s head phase) in
    ap reap_at (parts6 (field k) (field cid) (status_text s) (codes " ") (field head) (last_field (bit phase)))
    ∙ bind_step (event_at (field k ++ (field cid ++ r1))) _ ((k, cid), r1) made (event_again k cid r1 f.0)
    (bind_step (status_at r1) _ (s, r2) made (status_again s 32 r2 f.1)
    (pair_again (λ a b. Some (line.Reap k cid s a (eqb b 1))) head (bit phase) f.2 (bit_small phase)
    ∙ ap (λ (p : Bool). Some (line.Reap k cid s head p)) (bit_again phase)))

fetch_again : (k cid : ℕ) (s : StatusPair) (pieces : ℕ) → IsLine (line.Fetch k cid s pieces)
    → fetch_at (field k ++ field cid ++ status_text s ++ codes " " ++ last_field pieces) ≡ Some (line.Fetch k cid s pieces)
unfolding fetch_at
fetch_again k cid s pieces f =
    let r1 : List ℕ = status_text s ++ 32 ∷ last_field pieces in
    let made : Option Line = Some (line.Fetch k cid s pieces) in
    ap fetch_at (parts5 (field k) (field cid) (status_text s) (codes " ") (last_field pieces))
    ∙ bind_step (event_at (field k ++ (field cid ++ r1))) _ ((k, cid), r1) made (event_again k cid r1 f.0)
    (bind_step (status_at r1) _ (s, last_field pieces) made (status_again s 32 (last_field pieces) f.1)
    (ap (λ (x : ℕ × List ℕ). Some (line.Fetch k cid s x.0)) (last_again pieces 10 [] f.2 refl)))

-- an outcome, and the digest behind it
ended_again : (o : Outcome) (d : Option (List ℕ)) → IsOutcome o → IsDigest d → outcome_at (outcome_text o ++ digest_text d) ≡ Some (o, digest_text d)
ended_again o None fo fd = outcome_again o 10 [] fo refl
ended_again o (Some digest) fo fd = outcome_again o 32 _ fo refl

piece_again : (k cid first count : ℕ) (o : Outcome) (d : Option (List ℕ)) → IsLine (line.Piece k cid first count o d)
    → piece_at (field k ++ field cid ++ field first ++ field count ++ outcome_text o ++ digest_text d) ≡ Some (line.Piece k cid first count o d)
unfolding piece_at
piece_again k cid first count o d f =
    let r3 : List ℕ = outcome_text o ++ digest_text d in
    let r2 : List ℕ = field count ++ r3 in
    let r1 : List ℕ = field first ++ r2 in
    let made : Option Line = Some (line.Piece k cid first count o d) in
    ap piece_at (parts6 (field k) (field cid) (field first) (field count) (outcome_text o) (digest_text d))
    ∙ bind_step (event_at (field k ++ (field cid ++ r1))) _ ((k, cid), r1) made (event_again k cid r1 f.0)
    (ap (λ (x : ℕ × List ℕ). outcome_at (field_at x.1).1 >>= λ p. digest_at p.1 >>= λ e. Some (line.Piece k cid x.0 (field_at x.1).0 p.0 e)) (field_again first r2 f.1)
    ∙ ap (λ (y : ℕ × List ℕ). outcome_at y.1 >>= λ p. digest_at p.1 >>= λ e. Some (line.Piece k cid first y.0 p.0 e)) (field_again count r3 f.2)
    ∙ bind_step (outcome_at r3) _ (o, digest_text d) made (ended_again o d f.3 f.4)
    (bind_step (digest_at (digest_text d)) _ d made (digest_again d f.4) refl))

post_again : (k cid : ℕ) (s : StatusPair) → IsLine (line.Post k cid s) → post_at (field k ++ field cid ++ status_text s ++ codes "\n") ≡ Some (line.Post k cid s)
unfolding post_at
post_again k cid s f =
    let r1 : List ℕ = status_text s ++ 10 ∷ [] in
    let made : Option Line = Some (line.Post k cid s) in
    ap post_at (parts4 (field k) (field cid) (status_text s) (codes "\n"))
    ∙ bind_step (event_at (field k ++ (field cid ++ r1))) _ ((k, cid), r1) made (event_again k cid r1 f.0)
    (bind_step (status_at r1) _ (s, []) made (status_again s 10 [] f.1) refl)

found : {A : Type 0} (r : Option A) (x : A) (other : Option A) → r ≡ Some x → or_else r Some other ≡ Some x
found r x other e = ap (λ q. or_else q Some other) e

abbrev guessed : Line → Option Line
guessed l = Some l

-- a line in range is the guess of its text
pub guess_again : (l : Line) → IsLine l → guess_at (line_text l) ≡ Some l
unfolding guess_at numbered_at worded_at
guess_again (line.Act k n) f = found _ _ _ (act_again k n f)
guess_again (line.Reap k cid s head phase) f = found _ _ _ (reap_again k cid s head phase f)
guess_again (line.Fetch k cid s pieces) f = found _ _ _ (fetch_again k cid s pieces f)
guess_again (line.Piece k cid first count o d) f = found _ _ _ (piece_again k cid first count o d f)
guess_again (line.Post k cid s) f = found _ _ _ (post_again k cid s f)
guess_again (line.Round owed pages) f = pair_again (λ a b. guessed (line.Round a b)) owed pages f.0 f.1
guess_again (line.Pause blocks pages) f = pair_again (λ a b. guessed (line.Pause a b)) blocks pages f.0 f.1
guess_again line.Title f = refl
guess_again line.Ready f = refl
guess_again line.Migrate f = refl
guess_again line.Restart f = refl
guess_again line.Suspend f = refl
guess_again line.ResumeTo f = refl
guess_again line.GiveUp f = refl
guess_again line.End f = refl

-- a line in range has its form
pub form_of : (l : Line) → IsLine l → HasForm l
form_of (line.Piece k cid first count o d) f = f.5
form_of (line.Act k n) f = tt
form_of (line.Reap k cid s head phase) f = tt
form_of (line.Fetch k cid s pieces) f = tt
form_of (line.Post k cid s) f = tt
form_of (line.Round owed pages) f = tt
form_of (line.Pause blocks pages) f = tt
form_of line.Title f = tt
form_of line.Ready f = tt
form_of line.Migrate f = tt
form_of line.Restart f = tt
form_of line.Suspend f = tt
form_of line.ResumeTo f = tt
form_of line.GiveUp f = tt
form_of line.End f = tt

some_is : {A : Type 0} (x y : A) → Some x ≡ Some y → x ≡ y
some_is x y e = cc

-- what was guessed is the line that has the text
pub guess_is : (text : List ℕ) (g l : Line) → guess_at text ≡ Some g → IsLine l → text ≡ line_text l → g ≡ l
guess_is text g l e f t = some_is g l (sym e ∙ ap guess_at t ∙ guess_again l f)

-- where nothing was guessed, no line has the text
pub no_guess : (text : List ℕ) (l : Line) → guess_at text ≡ None → IsLine l → text ≡ line_text l → ⊥
no_guess text l e f t = let both : None ≡ Some l = sym e ∙ ap guess_at t ∙ guess_again l f in absurd cc

-- where the guess hasn't the text, no line has it
pub no_line : (text : List ℕ) (g l : Line) → guess_at text ≡ Some g → IsLine l → text ≡ line_text l → (IsLine g → text ≡ line_text g → ⊥) → ⊥
no_line text g l e f t other =
    let same : l ≡ g = sym (guess_is text g l e f t) in
    other (subst IsLine same f) (t ∙ ap line_text same)
