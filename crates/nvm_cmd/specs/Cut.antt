use Rattle.std.specs.Prelude.{◌≡◌, ◌+◌, ◌-◌, ◌/◌, ◌≤◌, ℕ, List}
use Rattle.std.specs.List.{flat_map, range_with_len}
use Rattle.mig_base.specs.declared.span.Span.{Span}
use Rattle.nvm_model.specs.declared.piece.Piece.{Piece}
use Rattle.nvm_model.specs.Piece.{piece_at}
use Rattle.nvm_cmd.specs.declared.job.Job.{Job}

-- the i-th piece of a lane's command
abbrev pub piece_of : ℕ → ℕ → ℕ → Job → Piece
piece_of lane shelf i job =
    let span : Span = piece_at shelf job.span i in
    record { lane = lane; cid = job.cid; op = job.op; span = span; at = span.first - job.span.first; pages = job.pages }

-- a part of a range of blocks, with at least one of them, that lies in one shelf
pub record IsPartOf (shelf : ℕ) (whole part : Span) : Type 0 where
  pub some : 1 ≤ part.count
  pub starts : whole.first ≤ part.first
  pub ends : part.first + part.count ≤ whole.first + whole.count
  pub one_shelf : part.first / shelf ≡ (part.first + part.count - 1) / shelf

-- the numbers of a range's blocks, ascending
abbrev pub blocks_of : Span → List ℕ
blocks_of span = range_with_len span.first span.count

-- n parts, one after another, have the blocks of the whole
abbrev pub HasBlocksOf : Span → ℕ → (ℕ → Span) → Type 0
HasBlocksOf whole n part = flat_map (λ i. blocks_of (part i)) (range_with_len 0 n) ≡ blocks_of whole
