use Rattle.std.specs.Prelude.{◌≡◌, ℕ, ◌+◌, ◌≤◌, Bool, List, length, vec_capacity}
use Rattle.std.specs.Global.{Vec}
use Rattle.std.specs.List.{AllByRecursion}
use Rattle.mig_base.specs.declared.span.Span.{Span}

-- a span of these many blocks
abbrev pub IsInside : ℕ → Span → Type 0
IsInside blocks span = span.first + span.count ≤ blocks

-- What a core's fields always are: as many of each block's things as there are blocks, eight lanes, spans that lie in the
-- blocks, and room for all spans of the log.
pub record HasRoom (source destination : List (List ℕ)) (owed : List Bool) (cells : ℕ) (log : Vec Span) (unposted : List (List Span)) : Type 0 where
  pub destination_long : length destination ≡ length source
  pub owed_long : length owed ≡ length source
  pub few : length source ≤ 131072
  pub log_few : length log.items ≤ cells
  pub log_room : cells ≤ vec_capacity log
  pub log_inside : AllByRecursion (IsInside (length source)) log.items
  pub lanes : length unposted ≡ 8
  pub lanes_inside : AllByRecursion (AllByRecursion (IsInside (length source))) unposted
