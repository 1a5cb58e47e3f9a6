use Rattle.std.proofs.Common.{rules, arith, ◌≡◌, ◌+◌, ℕ, List, ap, ◌∙◌, get_or, length, subst, sym}
use Rattle.std.specs.Mem.Slots.{slots_items}
use Rattle.data_queue.specs.Log.{HasLog, QueueState}
use Rattle.log_rule.specs.declared.view.View.{View}
use Rattle.log_rule.specs.Plays.{spent}
use Rattle.log_rule.specs.Rule.{Whole}
use Rattle.log_ring.specs.Ends.{HasClosed}
use Rattle.log_ring.specs.Seats.{view_of}
use Rattle.log_ring.specs.Words.{IsEntryWord}
use Rattle.log_ring.proofs.Closes.{closes, ended_sound, ends_by}
use Rattle.log_ring.proofs.ring.LogRing.close.Goals as goal

pub from_parts-requires-clause-places : goal.from_parts-requires-clause-places
from_parts-requires-clause-places c = let a = c.into_parts-cells.ensures.sound in let l = c.last_of-last.ensures in
    ended_sound _ c.len-size.result c.word-head.result c.last_of-last.result c.word-mark.result _ (search rules) (omega (arith, a.some, c.write_back.ensures.size)) (omega (arith, a.few, c.write_back.ensures.size)) l.from l.near c.ended.ensures

pub from_parts-requires-clause-log : goal.from_parts-requires-clause-log
from_parts-requires-clause-log c =
    let key = c.args.self.table.shared.key in
    let start : ℕ → ℕ = λ i. get_or key.words.value.items (i + 3) 0 in
    let v : View = view_of c.args.seat.badge in
    let ws : List ℕ = slots_items c.close_with-closed.result.words in
    let mine : v ≡ c.into_seat.result.me.0 = ap (λ (l : List View). get_or l 0 spent) c.into_seat.ensures.2 in
    let w : Whole key.cells key.head key.tail start IsEntryWord v ws =
    ends_by key.cells key.head key.tail start c.into_seat.result.id c.into_seat.result.me.0 v ws (slots_items c.close_with-closed.result.slots) (c.into_seat.ensures.1 ∙ c.requires.first) mine c.args.seat.idle.pending c.requires.back
    c.close_with-closed.ensures.values.2 in
    let parts = c.into_parts-cells in
    let size : c.len-size.result ≡ length parts.result.0.items = search rules in
    let left = closes c.args.self.queue key.cells key.head key.tail start v ws parts.result.1 c.len-size.result c.tail_of-first.result c.word-head.result c.word-tail.result c.word-mark.result c.last_of-last.result
    parts.result.0.items c.write_back.new.cells.items c.args.self.opened c.args.self.fits w parts.ensures.value size c.tail_of-first.ensures c.word-tail.ensures c.word-head.ensures c.word-mark.ensures
    c.last_of-last.ensures c.write_back.ensures.cells c.write_back.ensures.size c.ended.result c.ended.ensures in
    λ _. left.0 (subst HasLog parts.ensures.value (parts.ensures.log (ap (λ (q : QueueState). q.live) parts.ensures.value ∙ c.args.self.live.0)))

pub returns : goal.returns
returns c =
    let key = c.args.self.table.shared.key in
    let start : ℕ → ℕ = λ i. get_or key.words.value.items (i + 3) 0 in
    let v : View = view_of c.args.seat.badge in
    let ws : List ℕ = slots_items c.close_with-closed.result.words in
    let mine : v ≡ c.into_seat.result.me.0 = ap (λ (l : List View). get_or l 0 spent) c.into_seat.ensures.2 in
    let w : Whole key.cells key.head key.tail start IsEntryWord v ws =
    ends_by key.cells key.head key.tail start c.into_seat.result.id c.into_seat.result.me.0 v ws (slots_items c.close_with-closed.result.slots) (c.into_seat.ensures.1 ∙ c.requires.first) mine c.args.seat.idle.pending c.requires.back
    c.close_with-closed.ensures.values.2 in
    let parts = c.into_parts-cells in
    let size : c.len-size.result ≡ length parts.result.0.items = search rules in
    let left = closes c.args.self.queue key.cells key.head key.tail start v ws parts.result.1 c.len-size.result c.tail_of-first.result c.word-head.result c.word-tail.result c.word-mark.result c.last_of-last.result
    parts.result.0.items c.write_back.new.cells.items c.args.self.opened c.args.self.fits w parts.ensures.value size c.tail_of-first.ensures c.word-tail.ensures c.word-head.ensures c.word-mark.ensures
    c.last_of-last.ensures c.write_back.ensures.cells c.write_back.ensures.size c.ended.result c.ended.ensures in
    subst (HasClosed c.args.self.queue key.head key.tail v) (sym c.from_parts.ensures) left.1
