use Rattle.std.proofs.Common.{◌≡◌, ℕ, ◌^◌, ◌<◌, ◌≤◌, Bool, true, false, List, [], ◌∷◌, ◌++◌, codes, decimal, length, Option, Some, None, refl, sym, ap, ◌∙◌, append_assoc, arith}
use Rattle.std.specs.List.{AllByRecursion}
use Rattle.std.proofs.lemmas.List.{length-append}
use Rattle.std.proofs.lemmas.List.Elements.{recursion_from_All}
use Rattle.hex.specs.Hex.{encode_lower}
use Rattle.nvm_values.specs.Status.{StatusPair}
use Rattle.nvm_model.specs.declared.command.Outcome.{Outcome}
use Rattle.nvm_model.specs.declared.command.Outcome.TheVariants.{Done, Faulted, Differs}
use Rattle.nvm_model.specs.declared.line.Line.{Line}
use Rattle.nvm_model.specs.declared.line.Line.TheVariants as line
use Rattle.nvm_model.specs.Text.{IsDigest, IsLine, IsOutcome, IsStatus, bit, digest_text, field, last_field, line_text, outcome_text, status_text, text_of}
use Rattle.script.specs.Words.{cut_at}
use Rattle.script.proofs.ValueLaws.{decimal_plain, hex_plain}
use Rattle.script.proofs.WordLaws.{cut_again, free_append, plain_free, some_is}
use Rattle.transcript.specs.Guess.{guess_at}
use Rattle.transcript.proofs.Lines.{guess_again}
use Rattle.judge.specs.NextLine.{IsEnded}
use Rattle.judge.specs.Verdict.{ComesNext}

-- A line's text has one line feed, at its end. So a text begins with one line at most.

-- a text without a line feed
record IsFree (text : List ℕ) : Type 0 where
  free : cut_at 10 text ≡ None

ended_behind : (a b : List ℕ) → IsFree a → IsEnded b → IsEnded (a ++ b)
ended_behind a b free e = record {
  front = a ++ e.front;
  text_is = ap (λ (t : List ℕ). a ++ t) e.text_is ∙ sym (append_assoc a e.front (10 ∷ []));
  free = free_append 10 a e.front free.free e.free;
}

two_free : (a b : List ℕ) → IsFree a → IsFree b → IsFree (a ++ b)
two_free a b first second = record { free = free_append 10 a b first.free second.free }

number_free : (n : ℕ) → n < 2 ^ 32 → IsFree (decimal n)
number_free n low = record { free = plain_free 10 (decimal n) (omega arith) (decimal_plain n (omega (arith, low))) }

space_free : IsFree (32 ∷ [])
unfolding cut_at
space_free = record { free = refl }

feed_ends : IsEnded (10 ∷ [])
unfolding cut_at
feed_ends = record { front = []; text_is = refl; free = refl }

field_free : (n : ℕ) → n < 2 ^ 32 → IsFree (field n)
field_free n low = two_free (decimal n) (32 ∷ []) (number_free n low) space_free

last_ends : (n : ℕ) → n < 2 ^ 32 → IsEnded (last_field n)
last_ends n low = ended_behind (decimal n) (10 ∷ []) (number_free n low) feed_ends

status_free : (s : StatusPair) → IsStatus s → IsFree (status_text s)
status_free s f =
    two_free (field s.0) (encode_lower (s.1 ∷ [])) (field_free s.0 (omega (arith, f.0)))
    (record { free = plain_free 10 (encode_lower (s.1 ∷ [])) (omega arith) (hex_plain (s.1 ∷ []) (f.1, tt)) })

bit_low : (phase : Bool) → bit phase < 2 ^ 32
bit_low true = omega arith
bit_low false = omega arith

ok_free : IsFree (codes "ok")
unfolding cut_at
ok_free = record { free = refl }

fault_free : IsFree (codes "fault ")
unfolding cut_at
fault_free = record { free = refl }

differs_free : IsFree (codes "differs ")
unfolding cut_at
differs_free = record { free = refl }

outcome_free : (o : Outcome) → IsOutcome o → IsFree (outcome_text o)
outcome_free Done f = ok_free
outcome_free (Faulted at) f = two_free (codes "fault ") (decimal at) fault_free (number_free at f)
outcome_free (Differs at) f = two_free (codes "differs ") (decimal at) differs_free (number_free at f)

digest_ends : (d : Option (List ℕ)) → IsDigest d → IsEnded (digest_text d)
digest_ends None f = feed_ends
digest_ends (Some digest) f =
    let hex : IsFree (encode_lower digest) = record { free = plain_free 10 (encode_lower digest) (omega arith) (hex_plain digest (recursion_from_All (λ b. b < 2 ^ 8) digest f.1)) } in
    ended_behind (32 ∷ []) (encode_lower digest ++ 10 ∷ []) space_free (ended_behind (encode_lower digest) (10 ∷ []) hex feed_ends)

act_free : IsFree (codes "act ")
unfolding cut_at
act_free = record { free = refl }

reap_free : IsFree (codes "reap ")
unfolding cut_at
reap_free = record { free = refl }

fetch_free : IsFree (codes "fetch ")
unfolding cut_at
fetch_free = record { free = refl }

piece_free : IsFree (codes "piece ")
unfolding cut_at
piece_free = record { free = refl }

post_free : IsFree (codes "post ")
unfolding cut_at
post_free = record { free = refl }

round_free : IsFree (codes "round ")
unfolding cut_at
round_free = record { free = refl }

pause_free : IsFree (codes "pause ")
unfolding cut_at
pause_free = record { free = refl }

worded : (front : List ℕ) → IsFree front → IsEnded (front ++ 10 ∷ [])
worded front free = record { front = front; text_is = refl; free = free.free }

pub line_ends : (l : Line) → IsLine l → IsEnded (line_text l)
unfolding cut_at
line_ends line.Title f = worded (codes "nvmigrate transcript 1") (record { free = refl })
line_ends line.Ready f = worded (codes "ready") (record { free = refl })
line_ends (line.Act k n) f = let high = f.1 in ended_behind _ _ (two_free _ _ act_free (field_free k (omega (arith, high)))) (last_ends n f.2)
line_ends (line.Reap k cid status head phase) f =
    let high = f.0.1 in
    let small = f.0.2 in
    ended_behind _ _ (two_free _ _ (two_free _ _ (two_free _ _ (two_free _ _ (two_free _ _ reap_free (field_free k (omega (arith, high)))) (field_free cid (omega (arith, small)))) (status_free status f.1)) space_free) (field_free head f.2)) (last_ends (bit phase) (bit_low phase))
line_ends (line.Fetch k cid status pieces) f =
    let high = f.0.1 in
    let small = f.0.2 in
    ended_behind _ _ (two_free _ _ (two_free _ _ (two_free _ _ (two_free _ _ fetch_free (field_free k (omega (arith, high)))) (field_free cid (omega (arith, small)))) (status_free status f.1)) space_free) (last_ends pieces f.2)
line_ends (line.Piece k cid first count outcome digest) f =
    let high = f.0.1 in
    let small = f.0.2 in
    ended_behind _ _ (two_free _ _ (two_free _ _ (two_free _ _ (two_free _ _ (two_free _ _ piece_free (field_free k (omega (arith, high)))) (field_free cid (omega (arith, small)))) (field_free first f.1)) (field_free count f.2)) (outcome_free outcome f.3)) (digest_ends digest f.4)
line_ends (line.Post k cid status) f =
    let high = f.0.1 in
    let small = f.0.2 in
    ended_behind _ _ (two_free _ _ (two_free _ _ (two_free _ _ post_free (field_free k (omega (arith, high)))) (field_free cid (omega (arith, small)))) (status_free status f.1)) feed_ends
line_ends line.Migrate f = worded (codes "migrate") (record { free = refl })
line_ends line.Restart f = worded (codes "restart") (record { free = refl })
line_ends (line.Round owed pages) f = ended_behind _ _ (two_free _ _ round_free (field_free owed f.0)) (last_ends pages f.1)
line_ends line.Suspend f = worded (codes "suspend") (record { free = refl })
line_ends (line.Pause blocks pages) f = ended_behind _ _ (two_free _ _ pause_free (field_free blocks f.0)) (last_ends pages f.1)
line_ends line.ResumeTo f = worded (codes "resume to") (record { free = refl })
line_ends line.GiveUp f = worded (codes "give up") (record { free = refl })
line_ends line.End f = worded (codes "end") (record { free = refl })

-- what stands behind a text that ends at its first line feed is cut off there
pub ended_cut : (text after : List ℕ) (e : IsEnded text) → cut_at 10 (text ++ after) ≡ Some (e.front, after)
ended_cut text after e =
    ap (λ (t : List ℕ). cut_at 10 (t ++ after)) e.text_is ∙ ap (cut_at 10) (append_assoc e.front (10 ∷ []) after) ∙ cut_again 10 e.front after e.free

-- two such texts at the front of one are the same
pub ended_same : (a b x y : List ℕ) → IsEnded a → IsEnded b → a ++ x ≡ b ++ y → (a ≡ b) × (x ≡ y)
ended_same a b x y ea eb same =
    let both : (ea.front, x) ≡ (eb.front, y) = some_is (ea.front, x) (eb.front, y) (sym (ended_cut a x ea) ∙ (ap (cut_at 10) same ∙ ended_cut b y eb)) in
    let front : ea.front ≡ eb.front = ap (λ (p : List ℕ × List ℕ). p.0) both in
    (ea.text_is ∙ (ap (λ (t : List ℕ). t ++ 10 ∷ []) front ∙ sym eb.text_is), ap (λ (p : List ℕ × List ℕ). p.1) both)

-- a line has its own text
pub text_line : (l m : Line) → IsLine l → IsLine m → line_text l ≡ line_text m → l ≡ m
text_line l m fl fm same = some_is l m (sym (guess_again l fl) ∙ (ap guess_at same ∙ guess_again m fm))

-- a text begins with one line
pub one_line : (l m : Line) (x y : List ℕ) → IsLine l → IsLine m → line_text l ++ x ≡ line_text m ++ y → (l ≡ m) × (x ≡ y)
one_line l m x y fl fm same =
    let both = ended_same (line_text l) (line_text m) x y (line_ends l fl) (line_ends m fm) same in
    (text_line l m fl fm both.0, both.1)

-- no line comes where the text has no line feed, or where no line has the text up to there
pub none_comes : (text : List ℕ) → cut_at 10 text ≡ None → ComesNext text (λ l. Unit {0}) → ⊥
none_comes text none next = let some = ap (cut_at 10) next.rest_is ∙ ended_cut (line_text next.line) next.after (line_ends next.line next.is_line) in absurd (no_value (sym none ∙ some))
  where
    no_value : {A : Type 0} {x : A} → None ≡ Some x → ⊥
    no_value e = cc

pub other_comes : (text line after : List ℕ) → text ≡ line ++ after → IsEnded line → ((l : Line) → IsLine l → line ≡ line_text l → ⊥) → ComesNext text (λ l. Unit {0}) → ⊥
other_comes text line after text_is ended none next =
    none next.line next.is_line (ended_same line (line_text next.line) after next.after ended (line_ends next.line next.is_line) (sym text_is ∙ next.rest_is)).0

-- a line has a byte, so there are no more lines than bytes
pub line_some : (l : Line) → IsLine l → 1 ≤ length (line_text l)
line_some l is = let e = line_ends l is in let count : length (line_text l) ≡ length (e.front ++ 10 ∷ []) = ap (λ (t : List ℕ). length t) e.text_is in omega (arith, count, length-append e.front (10 ∷ []))

pub lines_few : (lines : List Line) → AllByRecursion IsLine lines → length lines ≤ length (text_of lines)
lines_few [] are = omega arith
lines_few (l ∷ lines) are = let rest = lines_few lines are.1 in omega (arith, rest, line_some l are.0, length-append (line_text l) (text_of lines))
