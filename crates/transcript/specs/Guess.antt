use Rattle.std.specs.Prelude.{ℕ, ◌==◌, List, codes, Option, Some, None}
use Rattle.nvm_model.specs.declared.line.Line.{Line}
use Rattle.nvm_model.specs.declared.line.Line.TheVariants as line
use Rattle.transcript.specs.Reading.{◌>>=◌, or_else, word_at, field_at, lane_of, event_at, status_at, outcome_at, digest_at}

-- The line that may have a text: what stands behind each first word.

unfoldable pub act_at : List ℕ → Option Line
act_at text = do
  k ← lane_of (field_at text).0
  Some (line.Act k (field_at (field_at text).1).0)

unfoldable pub reap_at : List ℕ → Option Line
reap_at text = do
  e ← event_at text
  s ← status_at e.1
  Some (line.Reap e.0.0 e.0.1 s.0 (field_at s.1).0 ((field_at (field_at s.1).1).0 == 1))

unfoldable pub fetch_at : List ℕ → Option Line
fetch_at text = do
  e ← event_at text
  s ← status_at e.1
  Some (line.Fetch e.0.0 e.0.1 s.0 (field_at s.1).0)

unfoldable pub piece_at : List ℕ → Option Line
piece_at text = do
  e ← event_at text
  let first = field_at e.1
  let count = field_at first.1
  o ← outcome_at count.1
  d ← digest_at o.1
  Some (line.Piece e.0.0 e.0.1 first.0 count.0 o.0 d)

unfoldable pub post_at : List ℕ → Option Line
post_at text = do
  e ← event_at text
  s ← status_at e.1
  Some (line.Post e.0.0 e.0.1 s.0)

abbrev pub round_at : List ℕ → Line
round_at text = line.Round (field_at text).0 (field_at (field_at text).1).0

abbrev pub pause_at : List ℕ → Line
pause_at text = line.Pause (field_at text).0 (field_at (field_at text).1).0

-- a line with numbers
unfoldable pub numbered_at : List ℕ → Option Line
numbered_at text =
    or_else (word_at (codes "act ") text) act_at
    (or_else (word_at (codes "reap ") text) reap_at
    (or_else (word_at (codes "fetch ") text) fetch_at
    (or_else (word_at (codes "piece ") text) piece_at
    (or_else (word_at (codes "post ") text) post_at
    (or_else (word_at (codes "round ") text) (λ rest. Some (round_at rest))
    (or_else (word_at (codes "pause ") text) (λ rest. Some (pause_at rest))
    None))))))

-- a line of words alone
unfoldable pub worded_at : List ℕ → Option Line
worded_at text =
    or_else (word_at (codes "nvmigrate ") text) (λ rest. Some line.Title)
    (or_else (word_at (codes "ready\n") text) (λ rest. Some line.Ready)
    (or_else (word_at (codes "migrate\n") text) (λ rest. Some line.Migrate)
    (or_else (word_at (codes "restart\n") text) (λ rest. Some line.Restart)
    (or_else (word_at (codes "suspend\n") text) (λ rest. Some line.Suspend)
    (or_else (word_at (codes "resume ") text) (λ rest. Some line.ResumeTo)
    (or_else (word_at (codes "give ") text) (λ rest. Some line.GiveUp)
    (or_else (word_at (codes "end\n") text) (λ rest. Some line.End)
    None)))))))

unfoldable pub guess_at : List ℕ → Option Line
guess_at text = or_else (numbered_at text) Some (worded_at text)
