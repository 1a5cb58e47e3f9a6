use Rattle.std.proofs.Common.{◌≡◌, ℕ, ◌%◌, ◌≤◌, List, [], ◌∷◌, ◌++◌, length, sym, ap, ◌∙◌, arith}
use Rattle.std.proofs.lemmas.List.{length-append}
use Rattle.nvm_model.specs.declared.command.Completion.{Completion}
use Rattle.nvm_model.specs.declared.line.Line.{Line}
use Rattle.nvm_model.specs.declared.line.Line.TheVariants as line
use Rattle.nvm_model.specs.declared.script.LaneSet.{LaneSet}
use Rattle.nvm_model.specs.declared.script.Script.{Script}
use Rattle.nvm_model.specs.Event.{LaneStep, head_of_last, phase_of}
use Rattle.nvm_model.specs.Turn.{AreOf, IsKind, LaneEvents}
use Rattle.nvm_model.specs.Turn.Kind.{Fetch, Post}
use Rattle.nvm_model.specs.World.{Lane, set_of}
use Rattle.nvm_ring.specs.Queues.{HasGuestEnds}
use Rattle.nvm_ring.proofs.QueueLemmas.{head_of_earlier}
use Rattle.lanes.specs.Guest.{GuestState}

-- What the controller's events leave of what the guest has and knows of its lane.

-- Fetches.

-- what the guest has of two lanes is the same
pub record IsSameGuest (old new : Lane) : Type 0 where
  pub acts : new.acts ≡ old.acts
  pub submitted : new.submitted ≡ old.submitted
  pub posted : new.posted ≡ old.posted
  pub reaped : new.reaped ≡ old.reaped

-- a fetch changes nothing of the guest's
fetch_keeps : (s : Script) (lane new : Lane) (e : Line) → IsKind Fetch e → LaneStep s e [] lane [] new → IsSameGuest lane new
fetch_keeps s lane new (line.Fetch j cid status pieces) kind step = record {
  acts = ap (λ (l : Lane). l.acts) step.1.after;
  submitted = ap (λ (l : Lane). l.submitted) step.1.after;
  posted = ap (λ (l : Lane). l.posted) step.1.after;
  reaped = ap (λ (l : Lane). l.reaped) step.1.after;
}
fetch_keeps s lane new _ kind step = absurd kind

-- fetches change nothing of the guest's
pub fetches_keep : (s : Script) (k : ℕ) (events : List Line) (lane new : Lane) → AreOf Fetch k events → LaneEvents s lane events new → IsSameGuest lane new
fetches_keep s k [] lane new are steps = record {
  acts = ap (λ (l : Lane). l.acts) steps;
  submitted = ap (λ (l : Lane). l.submitted) steps;
  posted = ap (λ (l : Lane). l.posted) steps;
  reaped = ap (λ (l : Lane). l.reaped) steps;
}
fetches_keep s k (e ∷ events) lane new are steps =
    let first = fetch_keeps s lane steps.0 e are.0.0 (steps.1 []) in
    let others = fetches_keep s k events steps.0 new are.1 steps.2 in
    record { acts = others.acts ∙ first.acts; submitted = others.submitted ∙ first.submitted; posted = others.posted ∙ first.posted; reaped = others.reaped ∙ first.reaped }

-- its ends stay
pub same_ends : {set : LaneSet} (guest : GuestState) {old new : Lane} → IsSameGuest old new → HasGuestEnds set guest.sq guest.cq guest.waiting old → HasGuestEnds set guest.sq guest.cq guest.waiting new
same_ends {set} guest {old} {new} same ends =
    let count = ap length same.submitted in
    record {
      sq_is = ends.sq_is ∙ ap (λ (cs : List Completion). record { size = set.sq; head = head_of_last cs old.reaped; tail = length old.submitted % set.sq }) (sym same.posted)
          ∙ ap (λ (n : ℕ). record { size = set.sq; head = head_of_last new.posted n; tail = length old.submitted % set.sq }) (sym same.reaped)
          ∙ ap (λ (n : ℕ). record { size = set.sq; head = head_of_last new.posted new.reaped; tail = n % set.sq }) (sym count);
      cq_is = ends.cq_is ∙ ap (λ (n : ℕ). record { size = set.cq; head = n % set.cq; phase = phase_of set.cq n }) (sym same.reaped);
      waits = omega (arith, ends.waits, count, same.reaped);
    }

-- Posts.

-- what the guest knows of two lanes is the same
pub record IsSameToGuest (old new : Lane) : Type 0 where
  pub acts : new.acts ≡ old.acts
  pub submitted : new.submitted ≡ old.submitted
  pub reaped : new.reaped ≡ old.reaped
  pub longer : length old.posted ≤ length new.posted
  pub head : old.reaped ≤ length old.posted → head_of_last new.posted new.reaped ≡ head_of_last old.posted old.reaped

-- a post changes nothing that the guest knows
post_keeps : (s : Script) (lane new : Lane) (e : Line) → IsKind Post e → LaneStep s e [] lane [] new → IsSameToGuest lane new
post_keeps s lane new (line.Post j cid status) kind step =
    let c : Completion = record { cid = cid; status = status; head = lane.fetched % (set_of s.head j).sq; phase = phase_of (set_of s.head j).cq (length lane.posted) } in
    let posted : new.posted ≡ lane.posted ++ c ∷ [] = ap (λ (l : Lane). l.posted) step.1.after in
    let reaped : new.reaped ≡ lane.reaped = ap (λ (l : Lane). l.reaped) step.1.after in
    let count = length-append lane.posted (c ∷ []) in
    let more = ap length posted in
    record {
      acts = ap (λ (l : Lane). l.acts) step.1.after;
      submitted = ap (λ (l : Lane). l.submitted) step.1.after;
      reaped = reaped;
      longer = omega (arith, count, more);
      head = λ few. ap (λ (cs : List Completion). head_of_last cs new.reaped) posted ∙ ap (head_of_last (lane.posted ++ c ∷ [])) reaped ∙ head_of_earlier lane.posted c lane.reaped few;
    }
post_keeps s lane new _ kind step = absurd kind

-- posts change nothing that the guest knows
pub posts_keep : (s : Script) (k : ℕ) (events : List Line) (lane new : Lane) → AreOf Post k events → LaneEvents s lane events new → IsSameToGuest lane new
posts_keep s k [] lane new are steps =
    let posted = ap (λ (l : Lane). length l.posted) steps in
    record {
      acts = ap (λ (l : Lane). l.acts) steps;
      submitted = ap (λ (l : Lane). l.submitted) steps;
      reaped = ap (λ (l : Lane). l.reaped) steps;
      longer = omega (arith, posted);
      head = λ few. ap (λ (l : Lane). head_of_last l.posted l.reaped) steps;
    }
posts_keep s k (e ∷ events) lane new are steps =
    let mid = steps.0 in
    let first = post_keeps s lane mid e are.0.0 (steps.1 []) in
    let others = posts_keep s k events mid new are.1 steps.2 in
    record {
      acts = others.acts ∙ first.acts;
      submitted = others.submitted ∙ first.submitted;
      reaped = others.reaped ∙ first.reaped;
      longer = omega (arith, first.longer, others.longer);
      head = λ few. others.head (omega (arith, first.reaped, first.longer, few)) ∙ first.head few;
    }

-- its ends stay where it knows the same
pub known_ends : {set : LaneSet} (guest : GuestState) {old new : Lane} → IsSameToGuest old new → old.reaped ≤ length old.posted → HasGuestEnds set guest.sq guest.cq guest.waiting old → HasGuestEnds set guest.sq guest.cq guest.waiting new
known_ends {set} guest {old} {new} same few ends =
    let count = ap length same.submitted in
    record {
      sq_is = ends.sq_is ∙ ap (λ (n : ℕ). record { size = set.sq; head = n; tail = length old.submitted % set.sq }) (sym (same.head few))
          ∙ ap (λ (n : ℕ). record { size = set.sq; head = head_of_last new.posted new.reaped; tail = n % set.sq }) (sym count);
      cq_is = ends.cq_is ∙ ap (λ (n : ℕ). record { size = set.cq; head = n % set.cq; phase = phase_of set.cq n }) (sym same.reaped);
      waits = omega (arith, ends.waits, count, same.reaped);
    }
