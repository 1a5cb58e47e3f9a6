use Rattle.std.proofs.Common.{◌≡◌, length}
use Rattle.controller.specs.Parts.{HasFetched}
use Rattle.controller.proofs.pair.Pair.fetch_turn.Given as goal

abbrev pub invariant-fetches : goal.invariant-fetches
invariant-fetches l = record {
  fetched : HasFetched l.lane l.blocks l.shelf l.w l.fn.plan l.plan l.fn.self l.self;
  count : length l.self.commands ≡ l._done;
  room : l.self.room ≡ l.fn.self.room;
}
