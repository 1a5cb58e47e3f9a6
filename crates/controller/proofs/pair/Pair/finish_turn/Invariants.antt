use Rattle.std.proofs.Common.{◌≡◌, ◌+◌, ◌≤◌, [], drop, length, map, sum, vec_len, vec_capacity}
use Rattle.controller.specs.Pair.{ended, free_places, outcomes_of, told_post}
use Rattle.controller.specs.Parts.{HasPosted}
use Rattle.controller.proofs.pair.Pair.finish_turn.Given as goal

abbrev pub invariant-posts : goal.invariant-posts
invariant-posts l =
    let commands = l.fn.self.commands in
    let fetched = l.fn.self.fetched in
    let outcomes = outcomes_of l.results in
    record {
      posted : HasPosted l.lane (map told_post (ended commands fetched outcomes)) (map told_post (ended (drop l.place commands) (drop l.place fetched) (drop l.at outcomes)))
          (record l.fn.self { commands = []; fetched = []; posted = [] }) l.fn.w
          (record l.fn.self { cq = l.self-inside.cq; commands = []; fetched = []; posted = l.self-inside.posted.items }) l.w;
      left : l.at + sum (map (λ f. f.2) (drop l.place fetched)) ≡ length l.results;
      count : vec_len l.self-inside.posted ≡ l.place;
      capacity : vec_capacity l.self-inside.posted ≡ l.fn.self.room;
      space : length commands ≤ free_places l.self-inside.cq + l.place;
      sq : l.self-inside.sq ≡ l.fn.self.sq;
      commands : l.self-inside.commands.items ≡ commands;
      fetched : l.self-inside.fetched.items ≡ fetched;
      room : l.self-inside.room ≡ l.fn.self.room;
      commands_room : vec_capacity l.self-inside.commands ≡ l.fn.self.room;
      fetched_room : vec_capacity l.self-inside.fetched ≡ l.fn.self.room;
      lane : l.w.lane ≡ l.fn.w.lane;
      size : length l.w.pages ≡ length l.fn.w.pages;
    }
