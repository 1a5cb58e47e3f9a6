use Rattle.std.proofs.Common.{◌≡◌, ⊎_elim, ℕ, ◌+◌, ◌-◌, ◌<◌, ◌≤◌, List, [], ◌∷◌, ◌++◌, Option, length, take, refl, sym, ap, ◌∙◌, append_assoc, arith}
use Rattle.std.proofs.lemmas.Bool.{cases_lt}
use Rattle.std.proofs.lemmas.Grind.{flat_map-append}
use Rattle.std.proofs.lemmas.List.{take-append-le}
use Rattle.std.proofs.Math.Seq.{take-append-add, take-nil}
use Rattle.mig_base.specs.Stream.{IsCut, with_more}
use Rattle.mig_base.proofs.WriteLemmas.{written_more}
use Rattle.nvm_model.specs.declared.line.Line.{Line}
use Rattle.nvm_model.specs.declared.line.Line.TheVariants as line
use Rattle.nvm_model.specs.Stop.{IsPart}
use Rattle.nvm_model.specs.Text.{line_text, text_of}

-- Texts of lines of which a front was written.

-- a front of a text of lines: whole lines and a part of the next
record HasFront (lines : List Line) (n : ℕ) : Type 0 where
  written : List Line
  rest : List Line
  lines_are : lines ≡ written ++ rest
  part : List ℕ
  part_is : IsPart part rest
  front : take n (text_of lines) ≡ text_of written ++ part

-- the first line is whole
whole_first : (l : Line) (lines : List Line) (n : ℕ) → length (line_text l) ≤ n → HasFront lines (n - length (line_text l)) → HasFront (l ∷ lines) n
whole_first l lines n past f =
    let first = line_text l in
    let more : n ≡ length first + (n - length first) = omega (arith, past) in
    record {
      written = l ∷ f.written;
      rest = f.rest;
      lines_are = ap (λ (ls : List Line). l ∷ ls) f.lines_are;
      part = f.part;
      part_is = f.part_is;
      front = ap (λ (m : ℕ). take m (first ++ text_of lines)) more ∙ take-append-add first (text_of lines) (n - length first)
          ∙ ap (λ (t : List ℕ). first ++ t) f.front ∙ sym (append_assoc first (text_of f.written) f.part);
    }

-- so many bytes of a text are a front of its lines
has_front : (lines : List Line) (n : ℕ) → HasFront lines n
has_front [] n = record { written = []; rest = []; lines_are = refl; part = []; part_is = refl; front = take-nil n }
has_front (l ∷ lines) n =
    let first = line_text l in
    ⊎_elim
    (λ (short : n < length first). record {
      written = [];
      rest = l ∷ lines;
      lines_are = refl;
      part = take n first;
      part_is = (n, short, refl);
      front = take-append-le n first (text_of lines) (omega (arith, short));
    })
    (λ (past : length first ≤ n). whole_first l lines n past (has_front lines (n - length first)))
    (cases_lt n (length first))

-- a text of which a front was written: whole lines and a part of the next
pub record Split (lines : List Line) (before after : Option (List ℕ)) : Type 0 where
  pub written : List Line
  pub rest : List Line
  pub lines_are : lines ≡ written ++ rest
  pub part : List ℕ
  pub part_is : IsPart part rest
  pub text : after ≡ with_more (text_of written ++ part) before

-- whatever front of a text was written, it is one of its lines
pub split_cut : (lines : List Line) (before after : Option (List ℕ)) → IsCut (text_of lines) before after → Split lines before after
split_cut lines before after cut =
    let f = has_front lines cut.0 in
    record {
      written = f.written;
      rest = f.rest;
      lines_are = f.lines_are;
      part = f.part;
      part_is = f.part_is;
      text = cut.2 ∙ ap (λ (t : List ℕ). with_more t before) f.front;
    }

-- no line has an empty text
line_some : (l : Line) → 0 < length (line_text l)
line_some line.Title = omega arith
line_some line.Ready = omega arith
line_some (line.Act k n) = omega arith
line_some (line.Reap k cid status head phase) = omega arith
line_some (line.Fetch k cid status pieces) = omega arith
line_some (line.Piece k cid first count outcome digest) = omega arith
line_some (line.Post k cid status) = omega arith
line_some line.Migrate = omega arith
line_some line.Restart = omega arith
line_some (line.Round owed pages) = omega arith
line_some line.Suspend = omega arith
line_some (line.Pause blocks pages) = omega arith
line_some line.ResumeTo = omega arith
line_some line.GiveUp = omega arith
line_some line.End = omega arith

-- a part of the first line is one where further lines follow
pub part_longer : (part : List ℕ) (a b : List Line) → IsPart part a → IsPart part (a ++ b)
part_longer part [] [] is = is
part_longer part [] (l ∷ b) is = (0, line_some l, is)
part_longer part (l ∷ a) b is = is

-- the text of lines, and a part of a further one
pub split_text : (a b : List Line) (part : List ℕ) (before mid after : Option (List ℕ)) → mid ≡ with_more (text_of a) before → after ≡ with_more (text_of b ++ part) mid → after ≡ with_more (text_of (a ++ b) ++ part) before
split_text a b part before mid after first second =
    written_more (text_of a) (text_of b ++ part) before mid after first second
    ∙ ap (λ (t : List ℕ). with_more t before) (sym (append_assoc (text_of a) (text_of b) part) ∙ ap (λ (t : List ℕ). t ++ part) (sym (flat_map-append line_text a b)))
