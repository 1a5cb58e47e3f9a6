use Rattle.std.proofs.Common.{rules, ◌≡◌, ◌+◌, ◌-◌, ℕ, [], ap, ◌∙◌, get_or, length, refl, sym, subst}
use Rattle.data_queue.specs.Log.{HasLog, QueueState}
use Rattle.log_ring.specs.declared.plays.Opened.{Opened}
use Rattle.log_ring.specs.Words.{Fits, IsOpened}
use Rattle.log_ring.proofs.Opens.{begins, fits, opened}
use Rattle.log_ring.proofs.ring.LogRing.open.Goals as goal

pub of_words-requires : goal.of_words-requires
of_words-requires c =
    let q : QueueState = c.args.q in
    let ws = c.in-Some.words.items in
    let start : ℕ → ℕ = λ i. get_or ws (i + 3) 0 in
    let n = c.from-cells.result in
    let t = c.tail_of-tail.result in
    let h : ℕ = t - c.from.result in
    let places = c.places-places in
    let size : n ≡ length q.cells = c.from-cells.ensures ∙ c.size.ensures in
    let o : IsOpened q n h t start = opened places.result q n h t c.from.result start places.ensures.value places.ensures.sound size c.tail_of-tail.ensures c.from.ensures refl c.in-Some.ensures.cells in
    let log : HasLog q = search rules in
    rw (c.of.ensures, c.as_slice.ensures.value) (begins q h t start n ws [] log size o (fits places.result q n h t start places.ensures.value places.ensures.sound o) c.in-Some.ensures.size c.in-Some.ensures.ends.0 c.in-Some.ensures.ends.1 c.in-Some.ensures.ends.2 (λ i. refl))

pub invariant_of-ring : goal.invariant_of-ring
invariant_of-ring c =
    let q : QueueState = c.args.q in
    let ws = c.in-Some.words.items in
    let n = c.from-cells.result in
    let t = c.tail_of-tail.result in
    let h : ℕ = t - c.from.result in
    let places = c.places-places in
    let size : n ≡ length q.cells = c.from-cells.ensures ∙ c.size.ensures in
    let key = c.in-Ok.ensures.5 in
    let about : Opened = record { cells = n; head = h; tail = t; words = c.of.result } in
    let words = subst (λ (l : _). Rattle.log_ring.specs.Words.AreWords q (λ i. get_or l.items (i + 3) 0)) (sym c.of.ensures) c.in-Some.ensures.cells in
    let o : IsOpened q n h t (λ i. get_or c.of.result.value.items (i + 3) 0) = opened places.result q n h t c.from.result _ places.ensures.value places.ensures.sound size c.tail_of-tail.ensures c.from.ensures refl words in
    record {
      live = c.requires;
      bare = c.in-Ok.ensures.1;
      sized = c.in-Ok.ensures.0 ∙ (ap length c.as_slice.ensures.value ∙ c.in-Some.ensures.size);
      opened = subst (λ (k : Opened). IsOpened q k.cells k.head k.tail (λ i. get_or k.words.value.items (i + 3) 0)) (sym key) o;
      fits = subst (λ (k : Opened). Fits k.cells k.head k.tail) (sym key) (fits places.result q n h t _ places.ensures.value places.ensures.sound o);
    }
