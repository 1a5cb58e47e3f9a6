use Rattle.std.proofs.Common.{◌≡◌, ℕ, ◌+◌, ◌<◌, List, ◌∷◌, [], ◌++◌, get_or, length, take, sym, ap, ◌∙◌, arith}
use Rattle.std.proofs.lemmas.Bool.{eqb-true, eq-eqb}
use Rattle.std.proofs.lemmas.List.{get_or-take, length-take-le, take-append-drop, take_more}
use Rattle.script.proofs.WordLaws.{cut_nowhere}
use Rattle.judge.specs.NextLine.{IsEnded}
use Rattle.judge.proofs.next_line.cut_line.Goals as goal

-- a text up to its first line feed and with it
ended_at : (text : List ℕ) (at : ℕ) → at < length text → ((k : ℕ) → k < at → get_or text k 0 ≡ 10 → ⊥) → get_or text at 0 ≡ 10 → IsEnded (take (at + 1) text)
ended_at text at there before is = record {
  front = take at text;
  text_is = take_more text at 0 there ∙ ap (λ (c : ℕ). take at text ++ c ∷ []) is;
  free = cut_nowhere 10 (take at text) (λ k low e. let within : k < at = omega (arith, low, length-take-le at text (omega (arith, there))) in before k within (sym (get_or-take at text k 0 within) ∙ e));
}

pub returns-in-None-clause-none : goal.returns-in-None-clause-none
returns-in-None-clause-none c = cut_nowhere 10 c.args.text.now (λ k l e. c.in-None.ensures k (omega arith) l (eq-eqb (get_or c.args.text.now k 0) 10 e))

pub returns-in-Some-clause-line : goal.returns-in-Some-clause-line
returns-in-Some-clause-line c =
    let text = c.args.text.now in
    let first = c.in-Some.ensures.0 in
    let at = c.in-Some.at in
    let ended = ended_at text at first.high (λ k lt e. first.before k (omega arith) lt (eq-eqb (get_or text k 0) 10 e)) (eqb-true (get_or text at 0) 10 c.in-Some.ensures.1) in
    rw (c.split_at.ensures.front, c.split_at.ensures.back) (record { text_is = sym (take-append-drop (at + 1) text); ended = ended })
