use Rattle.std.proofs.Common.{◌≡◌, ℕ, ◌+◌, ◌-◌, ◌*◌, ◌/◌, ◌%◌, ◌^◌, ◌<◌, ◌≤◌, Bool, List, [], ◌∷◌, ◌++◌, append-nil, get_or, length, map, replicate, take, true, refl, sym, ap, ◌∙◌, arith}
use Rattle.std.proofs.Math.ListN.{get_or-map}
use Rattle.std.proofs.lemmas.List.{drop_at, length-append, length-map, length-replicate, take_at}
use Rattle.std.proofs.lemmas.List.Elements.{All-from_get_or}
use Rattle.ctl_state.specs.declared.image.PairState.{PairState as PairImage}
use Rattle.ctl_state.specs.Image.{IsPair, none}
use Rattle.ctl_state.specs.Parts.{IsWhole, image_size}
use Rattle.ctl_state.specs.Admin.{image_of, state_bytes}
use Rattle.ctl_state.specs.Controller.{ControllerState, no_pair}
use Rattle.manager.specs.declared.manager.MovePhase.{MovePhase}
use Rattle.manager.specs.declared.manager.MovePhase.TheVariants.{Stopped}
use Rattle.manager.specs.declared.side.CopyAnswer.TheVariants.{Copied, Fault}
use Rattle.manager.specs.declared.side.Side.{Side}
use Rattle.manager.specs.declared.side.Side.TheVariants.{To}
use Rattle.manager.specs.Asks.{Ask, Asked, copy_asks, cut_over_asks, part_asks, state_asks, whole_parts}
use Rattle.manager.specs.Asks.Ask.{Copy, Mark}
use Rattle.manager.specs.Move.{Covers, Fits, HasImage, HoldsSame, LeavesSource, ManagerState, MayCutOver, give_up_asks, gone_on_with, suspended}
use Rattle.manager.specs.Owed.{places_of}
use Rattle.manager.specs.Parts.{DoesCopy, DoesPages, DoesResume, DoesStop, DoesSuspend, HandsOver, size_of, with_fed}
use Rattle.manager.specs.Port.{PortCall, PortState, SideState, with_media_of}
use Rattle.manager.proofs.AskLemmas.{asked_more}
use Rattle.manager.proofs.CopyLemmas.{all_differ, length-places, none_differs, none_told_differs}
use Rattle.manager.proofs.StateLemmas.{gone_on, rings_taken, state_is}
use Rattle.manager.proofs.StepLemmas.{length-whole_parts}

-- How many calls the parts of a cutover make.

pub few_asked : (ask : ℕ → Ask) (owed : List Bool) → length (map ask (places_of owed)) ≤ length owed
few_asked ask owed = omega (arith, length-map (places_of owed) ask, length-places 0 owed)

-- a state has at most 264 bytes
pub all_parts : {I : Type 0} {moves : I → PortCall → I → Type 0} {t : ℕ} {asks : List Ask} {done pages : List ℕ} {s0 s1 s2 s3 : PortState I} → MayCutOver s0
    → DoesSuspend moves t s0 s1 → DoesCopy moves asks done s1 s2 → DoesPages moves pages s2 s3 → length (state_asks (size_of s3.from.controller)) ≤ 10
all_parts {s0 = s0} {s3 = s3} may a b p =
    let size = size_of s3.from.controller in
    let same : length s3.from.controller.pairs ≡ length s0.from.controller.pairs = rw (p.from_is, b.from_is, a.from_is) in
    omega (arith, same, may.image.is.few, length-append (whole_parts (size / 64)) (part_asks (size / 64) (size % 64)), length-whole_parts 0 (size / 64))

-- as many as there are places, where one failed
pub stop_left : {I : Type 0} {moves : I → PortCall → I → Type 0} {side : Side} {old new : PortState I} (owed : List Bool) → DoesStop moves (places_of owed) side old new → old.left ≤ new.left + length owed
stop_left {side = side} owed d =
    omega (arith, d.copy.asked.left, length-append (copy_asks d.front) (Copy d.last (Fault side) ∷ []), length-map d.front (λ (b : ℕ). Copy b Copied), ap length d.all_is, length-append d.front (d.last ∷ d.others), length-places 0 owed)

-- A whole cutover, part after part.
module _ {I : Type 0} {moves : I → PortCall → I → Type 0} {t : ℕ} {s0 s1 s2 s3 s4 s5 : PortState I} (m : ManagerState) (fits : Fits m s0) (may : MayCutOver s0) (a : DoesSuspend moves t s0 s1)
    (b : DoesCopy moves (copy_asks (places_of m.blocks)) (places_of m.blocks) s1 s2) (p : DoesPages moves (places_of m.pages) s2 s3) (h : HandsOver moves (state_asks (size_of s3.from.controller)) s3 s4)
    (r : DoesResume moves To t s4 s5) where
  controller_3 : s3.from.controller ≡ suspended s0.from.controller
  controller_3 = rw (p.from_is, b.from_is, a.from_is)

  from_5 : s5.from ≡ s2.from
  from_5 = r.sides.0 ∙ h.from_is ∙ p.from_is

  pub cut_asked : Asked moves (cut_over_asks t (places_of m.blocks) (places_of m.pages) (image_size (length s0.from.controller.pairs))) s0 s5
  cut_asked = asked_more a.asked (asked_more b.asked (asked_more p.asked (asked_more (rw (ap size_of controller_3) at h.asked) r.asked)))

  pub sides_after : LeavesSource s0.from s5.from × HoldsSame m s0 s5
  sides_after =
      let source = s0.from.controller in
      let fed : ControllerState = (with_fed (state_bytes s3.from.controller) s3.to).controller in
      let to_3 : s3.to.controller ≡ s0.to.controller = rw (p.to_is, b.to_is, a.to_is) in
      let whole : IsWhole fed.fed.lanes fed.fed.bytes may.image.image = rw (to_3, may.fed, controller_3) (may.image.is, state_is source may.image) in
      let again = rw h.to_is at r.resumes in
      let goes = gone_on source fed r.controller may.image r.result again.0 whole again.1 in
      let rings : List PairImage = map image_of source.pairs in
      let now : s5.to.controller ≡ record (gone_on_with rings s0.to.controller) { fed = s4.to.controller.fed } = rw r.sides.1 (goes ∙ rw (h.to_is, to_3)) in (
        record { is = rw from_5 (b.from_is ∙ ap (λ (s : SideState). record s { faults = s2.from.faults }) a.from_is) },
        record {
          blocks = λ d. rw (from_5, r.sides.1, h.to_is, p.to_is) (none_told_differs s1.count s2.from.blocks s2.to.blocks (b.fewer [] (rw (append-nil, a.from_is, a.to_is, a.asked.count, fits.blocks) d)));
          pages = λ d. rw (r.sides.0, h.from_is, r.sides.1, h.to_is) (none_differs m.set.ram_pages s3.from.pages s3.to.pages (p.fewer m.set.ram_pages [] (rw (append-nil, b.from_is, a.from_is, b.to_is, a.to_is) d)));
          running = rw now;
          state = rw (now, r.sides.0, h.from_is, controller_3) (rings_taken rings s0.to.controller.pairs (length-map source.pairs image_of ∙ sym may.lanes));
        },
      )

-- where no side was suspended, a move that is given up is marked alone
pub marks_alone : (phase : MovePhase) (t : ℕ) → (phase ≡ Stopped → ⊥) → give_up_asks phase t ≡ Mark (3 * t + 2) ∷ []
marks_alone Stopped t not = absurd (not refl)
marks_alone _ t not = refl

-- where all is owed, whatever differs is
pub covers_all : (m : ManagerState) → m.blocks ≡ replicate m.set.blocks true → m.pages ≡ replicate m.set.ram_pages true → Covers m
covers_all m blocks pages = record { blocks = rw blocks (all_differ m.set.blocks); pages = rw pages (all_differ m.set.ram_pages) }

-- a cutover that stopped leaves a port for one that gives up
pub fits_still : {J : Type 0} {n k : ManagerState} {old mid : PortState J} → Fits n old → k.set ≡ n.set → mid.count ≡ old.count → LeavesSource old.from mid.from → mid.to ≡ with_media_of mid.to old.to → 2 ^ 18 ≤ mid.left → Fits k mid
fits_still is set count leaves to left = record {
  blocks = rw (count, set) is.blocks;
  from_pages = rw (leaves.is, set) is.from_pages;
  to_pages = rw (to, set) is.to_pages;
  calls = left;
  from_quiet = rw leaves.is is.from_quiet;
  to_quiet = rw to is.to_quiet;
}

-- a controller whose rings are those of an image has one
pub has_image : (c : ControllerState) → length c.pairs ≤ 8 → ((i : ℕ) → i < length c.pairs → IsPair (image_of (get_or c.pairs i no_pair))) → HasImage c
has_image c few fits =
    let n = length c.pairs in
    let images = map image_of c.pairs in
    let others : List PairImage = replicate (8 - n) none in
    let long : length images ≡ n = length-map c.pairs image_of in
    let taken : take n (images ++ others) ≡ images = take_at images others n long in
    record {
      image = record { pairs = images ++ others; used = n };
      is = record {
        used = refl;
        few = few;
        room = omega (arith, length-append images others, long, length-replicate (8 - n) none, few);
        pairs = rw taken (All-from_get_or IsPair images (image_of no_pair) (λ i there. rw (get_or-map image_of c.pairs i no_pair) (fits i (omega (arith, there, long)))));
        others = drop_at images others n long;
      };
      rings = taken;
    }
