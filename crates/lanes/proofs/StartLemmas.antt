use Rattle.std.proofs.Common.{◌≡◌, ◌+◌, ◌-◌, [], true, drop, length, replicate, refl, sym, ap, ◌∙◌, arith}
use Rattle.std.proofs.Math.Nat.{zero-div, zero-mod}
use Rattle.std.proofs.lemmas.List.{drop-replicate, get_or-replicate, length-replicate}
use Rattle.nvm_model.specs.declared.script.LaneSet.{LaneSet}
use Rattle.nvm_model.specs.Memory.{page_at, zero_page}
use Rattle.nvm_ring.specs.Queues.{IsOrdered, sq_of}
use Rattle.nvm_model.specs.Ring.{IsSqRing}
use Rattle.nvm_model.specs.ScriptText.{IsSet}
use Rattle.nvm_model.specs.World.{new_lane}
use Rattle.nvm_model.proofs.CellLemmas.{ring_page-none}
use Rattle.nvm_ring.proofs.RingLemmas.{cq_page_is-start, sq_ring-start}
use Rattle.guest_ram.specs.Window.{WindowState}
use Rattle.lanes.specs.Guest.{GuestState, Stands}

-- The start: a new guest over a zeroed window stands for a new lane.

-- the lane is in order
new_ordered : {set : LaneSet} → IsSet set → IsOrdered set (new_lane set.pages)
new_ordered {set} is = record {
  submitted = omega arith;
  fetched = omega arith;
  posted = refl;
  reaped = omega arith;
  in_flight = omega (arith, is);
  told = λ n. 0;
  tells = record {
    none = refl;
    heads = λ m c is. cc;
    rising = λ m n low high. omega arith;
    few = omega arith;
    last = λ all. refl;
  };
  untold = omega (arith, is);
}

-- a new guest, over a zeroed window, stands for it
pub new_stands : {set : LaneSet} {guest : GuestState} {window : WindowState} → IsSet set → window ≡ record { lane = guest.lane; pages = replicate (set.pages + 2) zero_page } → guest.waiting ≡ 0 → guest.sq ≡ record { size = set.sq; head = 0; tail = 0 } → guest.cq ≡ record { size = set.cq; head = 0; phase = true } →
    Stands set guest window (new_lane set.pages)
new_stands {set} {guest} {window} is window_is waiting sq cq =
    let pages = ap (λ (w : WindowState). w.pages) window_is in
    let first : page_at window.pages 0 ≡ zero_page = ap (λ p. page_at p 0) pages ∙ get_or-replicate (set.pages + 2) 0 zero_page [] (omega arith) in
    let second : page_at window.pages 1 ≡ zero_page = ap (λ p. page_at p 1) pages ∙ get_or-replicate (set.pages + 2) 1 zero_page [] (omega arith) in
    let both : set.pages + 2 - 2 ≡ set.pages = omega arith in
    let entries : IsSqRing (sq_of set (new_lane set.pages)) zero_page [] = rw (zero-mod set.sq) (sq_ring-start set.sq zero_page (omega (arith, is))) in
    record {
      number = ap (λ (w : WindowState). w.lane) window_is;
      window_is = record {
        size = ap length pages ∙ length-replicate (set.pages + 2) zero_page;
        sq = first ∙ sym (ring_page-none 64 set.sq (omega (arith, is)));
        cq = second ∙ sym (ring_page-none 16 set.cq (omega (arith, is)));
        memory = sym (ap (drop 2) pages ∙ drop-replicate 2 (set.pages + 2) zero_page ∙ ap (λ n. replicate n zero_page) both);
        entries = rw first entries;
        completions = rw second (cq_page_is-start set.cq (omega (arith, is)));
      };
      ordered = new_ordered is;
      ends = record {
        sq_is = rw (zero-mod set.sq) sq;
        cq_is = rw (zero-mod set.cq, zero-div set.cq) cq;
        waits = omega (arith, waiting);
      };
    }
