use Rattle.std.proofs.Common.{◌≡◌, ◌+◌, true, vec_len, vec_capacity}
use Rattle.nvm_model.specs.World.{Lane}
use Rattle.turns.specs.Parts.{ReapsSome, Leads}
use Rattle.session.specs.LaneParts.{IsGuestStep, StandsFree, seat_of}
use Rattle.session.proofs.plan.reap_all.Given as goal

abbrev pub invariant-loop-turn : goal.invariant-loop-turn
invariant-loop-turn l = record {
  reaps : (a : Lane) → StandsFree l.script l.lane (seat_of l.fn.run l.fn.controller l.window) a
      → Leads (ReapsSome true l.script l.lane) (StandsFree l.script l.lane (seat_of l.run l.controller l.window)) a l.fn.events.items l.events.items;
  step : IsGuestStep l.script l.lane (seat_of l.fn.run l.fn.controller l.window) (seat_of l.run l.controller l.window);
  count : vec_len l.events ≡ vec_len l.fn.events + l._turn;
  capacity : vec_capacity l.events ≡ vec_capacity l.fn.events;
}
