use Rattle.std.proofs.Common.{◌≡◌, ℕ, ◌*◌, ◌&&◌, Bool, true, false, List, Option, Some, None, Result, Ok, Err, length, refl, sym, ap, subst, ◌∙◌, arith}
use Rattle.std.specs.Prelude.{◌≤◌, IfOk, IfSome, is_err}
use Rattle.nvm_model.specs.World.{window_pages}
use Rattle.std.proofs.lemmas.List.{length-map}
use Rattle.mig_base.specs.Count.{RisesIf}
use Rattle.nvm_model.specs.declared.script.Head.{Head}
use Rattle.nvm_model.specs.declared.script.Script.{Script}
use Rattle.nvm_model.specs.declared.trace.Step.{Step}
use Rattle.nvm_model.specs.Medium.{MediumState, told_in}
use Rattle.nvm_model.specs.Shelf.{joined}
use Rattle.nvm_blocks.specs.Namespace.{media_of}
use Rattle.nvm_blocks.specs.ShelfState.{ShelfState}
use Rattle.nvm_model.specs.declared.run.RunPhase.TheVariants.{Over}
use Rattle.nvm_model.specs.declared.run.Side.{Side}
use Rattle.nvm_model.specs.declared.run.Side.TheVariants.{Source, Destination}
use Rattle.nvm_model.specs.Run.{SinkState, Snapshot, Task, by_side, lines_in, memory_of, start_of}
use Rattle.nvm_model.specs.Told.{Tells, have_resumed, is_source, serial}
use Rattle.turns.proofs.AskedLaws.{run_asks}
use Rattle.turns.proofs.StageLineLaws.{run_is_whole}
use Rattle.turns.proofs.EndLaws.{is_untouched}
use Rattle.turns.proofs.RanLaws.{ran}
use Rattle.turns.proofs.TraceLaws.{run_segments}
use Rattle.session.specs.declared.ending.Ending.{Ending}
use Rattle.session.specs.declared.ending.Ending.TheVariants as ending
use Rattle.session.specs.Opened.{IsNewPlace, Opens}
use Rattle.guest_ram.specs.Ram.{all_pages}
use Rattle.session.specs.Place.{PlaceState}
use Rattle.session.specs.Sides.{Goes, HasEnded as SessionEnded, IsEnding, MovesAtOnce, SessionState, StandsAs, at_side, by_side as stand_by, sides}
use Rattle.engine.specs.declared.status.Status.{Status}
use Rattle.engine.specs.declared.status.Status.TheVariants.{Done, Usage, BadScript, TooLong, OutOfMemory, HostSize, ReadFault, WriteFault, GaveUp, Refused}
use Rattle.engine.specs.Built.{IsTaken, Spells}
use Rattle.engine.specs.Claims.{OnEnded, OnWriteFault, is_gave_up, is_write_fault}
use Rattle.engine.specs.Headline.{AreLeft, HasGone, Hosts, IsRun, start}
use Rattle.engine.specs.Opened.{IsOpened, phase_at}

-- What a session over two places leaves to the hosts that these were opened of.

-- the hosts got these places' media and memory
pub record AreGiven {M : Type 0} (source destination : PlaceState M) (sent : SinkState) (new : Hosts M) : Type 0 where
  pub from : new.from ≡ media_of source.namespace
  pub to : new.to ≡ media_of destination.namespace
  pub from_ram : new.from_ram ≡ source.windows
  pub to_ram : new.to_ram ≡ destination.windows
  pub out : new.out ≡ sent

record Left {M : Type 0} (session : SessionState) (end : Snapshot M) (new : Hosts M) : Type 0 where
  left : AreLeft end new
  task : end.task ≡ serial session.script
  phase : end.phase ≡ session.phase
  side : end.side ≡ session.side

left_by : {M : Type 0} (side : Side) {session : SessionState} {from to : PlaceState M} {out : SinkState} {end : Snapshot M} {new : Hosts M} → session.side ≡ side →
    StandsAs (at_side side (sides session from to out) (sides session to from out)) end → AreGiven from to out new → Left session end new
left_by {M} Source {end = end} {new} is stands given =
    let side = stands.side ∙ is in
    let memory = memory_of end.task.script end.lanes in
    record {
      left = record {
        from = given.from ∙ sym stands.lanes.media ∙ sym (ap (λ (k : Side). by_side Source k end.at end.other) side);
        to = given.to ∙ sym stands.other ∙ sym (ap (λ (k : Side). by_side Destination k end.at end.other) side);
        from_memory = ap all_pages given.from_ram ∙ sym stands.memory ∙ sym (ap (λ (k : Side). by_side Source k memory end.left) side);
        to_memory = ap all_pages given.to_ram ∙ sym stands.left ∙ sym (ap (λ (k : Side). by_side Destination k memory end.left) side);
        out = given.out ∙ sym stands.out;
      };
      task = stands.task;
      phase = stands.phase;
      side = stands.side;
    }
left_by {M} Destination {end = end} {new} is stands given =
    let side = stands.side ∙ is in
    let memory = memory_of end.task.script end.lanes in
    record {
      left = record {
        from = given.from ∙ sym stands.other ∙ sym (ap (λ (k : Side). by_side Source k end.at end.other) side);
        to = given.to ∙ sym stands.lanes.media ∙ sym (ap (λ (k : Side). by_side Destination k end.at end.other) side);
        from_memory = ap all_pages given.from_ram ∙ sym stands.left ∙ sym (ap (λ (k : Side). by_side Source k memory end.left) side);
        to_memory = ap all_pages given.to_ram ∙ sym stands.memory ∙ sym (ap (λ (k : Side). by_side Destination k memory end.left) side);
        out = given.out ∙ sym stands.out;
      };
      task = stands.task;
      phase = stands.phase;
      side = stands.side;
    }

is_over : {E : Type 0} (session : SessionState) (result : Result Ending E) → IfOk result (λ e. SessionEnded e session) → is_err result ≡ false → session.phase ≡ Over
is_over session (Ok e) ended is = ended.over
is_over session (Err e) ended is = absurd cc

ends_so : {E : Type 0} (session : SessionState) {asked : Option ℕ} {side : Side} (result : Result Ending E) → session.script.head.migrate ≡ asked → session.side ≡ side → IfOk result (λ e. SessionEnded e session) → IfOk result (λ e. IsEnding asked side e)
ends_so session (Ok e) asked is ended = rw (← asked, ← is) ended.ended
ends_so session (Err e) asked is ended = tt

pub gone : {M I E : Type 0} {state : M → MediumState I} {moves : I → Step → Bool → I → Type 0} {session : SessionState} (new_session : SessionState) {source destination new_source new_destination : PlaceState M} {out sent : SinkState} {result : Result Ending E} {new : Hosts M} →
    Opens session (media_of source.namespace) (media_of destination.namespace) source destination →
    Goes state moves (sides session source destination out) (is_err result) (stand_by new_session new_source new_destination sent) → IfOk result (λ e. SessionEnded e new_session) → AreGiven new_source new_destination sent new →
    HasGone state moves (start_of (serial session.script) (media_of source.namespace) (media_of destination.namespace) out) result new
gone {state = state} {moves} {session} new_session {source} {destination} {out = out} {result = result} opens goes ended given =
    let from = start_of (serial session.script) (media_of source.namespace) (media_of destination.namespace) out in
    let to = goes from (opens.stands out) in
    let at = left_by new_session.side refl to.stands given in
    let asks = run_asks state moves from to.went.stages to.end refl refl refl to.went.run in
    record {
      end = to.end;
      ran = ran to.went refl (λ is. at.phase ∙ is_over new_session result ended is);
      left = at.left;
      over = λ is. at.phase ∙ is_over new_session result ended is;
      ending = ends_so new_session result (ap (λ (k : Task). k.script.head.migrate) (sym at.task ∙ asks.same)) (sym at.side) ended;
    }

-- a script that is taken moves at once
pub at_once : (s : Script) → IsTaken s → IfSome s.head.migrate (λ _. MovesAtOnce s.head)
at_once s taken = by s.head.migrate taken.built.moves
  where
    by : (asked : Option ℕ) → IfSome asked (λ _. (s.head.small ≡ s.head.blocks) × (window_pages s.head ≤ s.head.pages)) → IfSome asked (λ _. MovesAtOnce s.head)
    by None is = tt
    by (Some turn) is = record { blocks = omega (arith, is.0); pages = is.1 }

-- What is said of a run at the top.

-- whether a run gave its migration up
abbrev pub gives_up : Ending → Bool
gives_up ending.Done = false
gives_up ending.GaveUp = true

-- an answer for a result
pub record IsAnswer {E : Type 0} (result : Result Ending E) (status : Status) : Type 0 where
  pub failed : is_err result ≡ is_write_fault status
  pub gave_up : IfOk result (λ e. gives_up e ≡ is_gave_up status)

on_ended : (status : Status) {claim : Type 0} → (is_write_fault status ≡ false → claim) → OnEnded status claim
on_ended Done f = f refl
on_ended GaveUp f = f refl
on_ended Usage f = tt
on_ended (Refused line why) f = tt
on_ended (BadScript line why) f = tt
on_ended TooLong f = tt
on_ended OutOfMemory f = tt
on_ended (HostSize kept asked) f = tt
on_ended ReadFault f = tt
on_ended WriteFault f = tt

on_write_fault : (status : Status) {claim : Type 0} → (is_write_fault status ≡ true → claim) → OnWriteFault status claim
on_write_fault WriteFault f = f refl
on_write_fault Done f = tt
on_write_fault GaveUp f = tt
on_write_fault Usage f = tt
on_write_fault (Refused line why) f = tt
on_write_fault (BadScript line why) f = tt
on_write_fault TooLong f = tt
on_write_fault OutOfMemory f = tt
on_write_fault (HostSize kept asked) f = tt
on_write_fault ReadFault f = tt

-- a migration was given up where one was begun and the guests are at the source
given_up : (tried : Bool) (asked : Option ℕ) (side : Side) (e : Ending) → (asked ≡ None → tried ≡ false) → (tried ≡ false → (turn : ℕ) → asked ≡ Some turn → ⊥) → IsEnding asked side e → (tried && is_source side) ≡ gives_up e
given_up tried None side ending.Done none some is = ap (λ (b : Bool). b && is_source side) (none refl)
given_up tried None side ending.GaveUp none some is = absurd is
given_up true (Some turn) Source ending.GaveUp none some is = refl
given_up false (Some turn) Source ending.GaveUp none some is = absurd (some refl turn refl)
given_up tried (Some turn) Source ending.Done none some is = absurd is
given_up true (Some turn) Destination ending.Done none some is = refl
given_up false (Some turn) Destination ending.Done none some is = refl
given_up tried (Some turn) Destination ending.GaveUp none some is = absurd is

answered : {E : Type 0} {tried : Bool} {asked : Option ℕ} (side : Side) (status : Status) (result : Result Ending E) → is_err result ≡ false → (asked ≡ None → tried ≡ false) → (tried ≡ false → (turn : ℕ) → asked ≡ Some turn → ⊥) →
    IfOk result (λ e. IsEnding asked side e) → IfOk result (λ e. gives_up e ≡ is_gave_up status) → (tried && is_source side) ≡ is_gave_up status
answered {tried = tried} {asked} side status (Ok e) ok none some is same = given_up tried asked side e none some is ∙ same
answered side status (Err e) ok none some is same = absurd cc

not_tried : (tried : Bool) (asked : Option ℕ) → (tried ≡ true → (turn : ℕ) × (asked ≡ Some turn)) → asked ≡ None → tried ≡ false
not_tried false asked begun none = refl
not_tried true asked begun none = let b = begun refl in absurd cc

-- a host's media are as many as the script's shelves
pub count_is : {M I : Type 0} {state : M → MediumState I} {side : Side} {head : Head} {media : List M} {place : PlaceState M} → IsOpened state side head media place → length media * head.shelf ≡ head.blocks
count_is {M} {head = head} {media} {place} o =
    let n = place.namespace in
    let many : length media ≡ length n.shelves = ap (λ (l : List M). length l) (sym o.opened.media_are) ∙ length-map n.shelves (λ (s : ShelfState M). s.medium) in
    ap (λ (k : ℕ). k * head.shelf) many ∙ ap (λ (k : ℕ). length n.shelves * k) (sym o.opened.namespace.shelf) ∙ o.opened.namespace.blocks

tells : {M I : Type 0} {state : M → MediumState I} {s : Script} (old : Hosts M) {source destination : PlaceState M} → IsTaken s → IsOpened state Source s.head old.from source → IsOpened state Destination s.head old.to destination →
    (resumed : Bool) (blocks : List (List ℕ)) → joined (told_in state old.from) ≡ Some blocks → (resumed ≡ true → (others : List (List ℕ)) × (joined (told_in state old.to) ≡ Some others)) → Tells state s blocks resumed (start s old)
tells old taken from to resumed blocks told to_told = record {
  script = taken.script;
  start = refl;
  source = record { sizes = from.sizes; count = count_is from; told = told };
  destination = λ went. let others = to_told went in (others.0, record { sizes = to.sizes; count = count_is to; told = others.1 });
}

run_of : {M I E : Type 0} {state : M → MediumState I} {moves : I → Step → Bool → I → Type 0} {input : Option (List ℕ)} {s : Script} {old new : Hosts M} {source destination : PlaceState M} {result : Result Ending E} (status : Status) →
    IsTaken s → Spells input s → IsOpened state Source s.head old.from source → IsOpened state Destination s.head old.to destination → HasGone state moves (start s old) result new → IsAnswer result status → IsRun state moves input old status new
run_of {M} {I} {E} {state} {moves} {input} {s} {old} {new} {result = result} status taken spelled from to g answer =
    let stages = g.ran.stages in
    let lines = lines_in stages in
    let asks = run_asks state moves (start s old) stages g.end refl refl refl g.ran.run in
    let none = λ (e : s.head.migrate ≡ None). not_tried g.end.tried g.end.task.script.head.migrate asks.asked (ap (λ (k : Task). k.script.head.migrate) asks.same ∙ e) in
    let says = λ (is : is_write_fault status ≡ false). answered g.end.side status result (answer.failed ∙ is) none
    (λ n turn e. asks.over (g.over (answer.failed ∙ is)) n turn (ap (λ (k : Task). k.script.head.migrate) asks.same ∙ e)) g.ending answer.gave_up in
    let source_sizes = g.ran.sizes Source s.head.shelf from.sizes in
    let destination_sizes = g.ran.sizes Destination s.head.shelf to.sizes in
    record {
      script = s;
      taken = taken;
      spelled = spelled;
      stages = stages;
      end = g.end;
      run = g.ran.run;
      left = g.left;
      text = rw (← answer.failed, g.left.out) g.ran.text;
      media = record {
        source = rw g.left.from g.ran.source;
        destination = rw g.left.to g.ran.destination;
        source_sizes = rw g.left.from source_sizes;
        destination_sizes = rw g.left.to destination_sizes;
      };
      segments = run_segments state moves s (start s old) stages g.end (record { script = refl; phase = refl; side = refl }) g.ran.run;
      faults = record { never_fell = rw (g.left.from, g.left.to) g.ran.never_fell; causes = rw (g.left.from, g.left.to) g.ran.causes };
      unmoved = λ e. let stays = asks.stays (none e) in is_untouched (start s old) g.end refl stays.0 stays.1 stays.2;
      over = on_ended status (λ is. record { over = g.over (answer.failed ∙ is); whole = run_is_whole state moves (start s old) stages g.end refl refl refl (g.over (answer.failed ∙ is)) g.ran.run; gave_up = says is });
      ended = on_ended status (λ is blocks told to_told.
          let r = g.ran.ended (answer.failed ∙ is) s blocks (tells old taken from to (have_resumed stages) blocks told to_told) in
          record {
            world = r.world;
            history = record { transcript = record { text_is = refl; are_lines = r.are_lines }; legal = r.legal };
            turns = r.turns;
            complete = r.complete;
            hosts = r.sides;
            gave_up = r.gave_up ∙ says is;
          });
      sink = on_write_fault status (λ is blocks told to_told. g.ran.stopped (answer.failed ∙ is) s blocks (tells old taken from to (have_resumed stages) blocks told to_told));
    }

-- the same of the places that the hosts were opened as
pub is_run : {M I E : Type 0} {state : M → MediumState I} {moves : I → Step → Bool → I → Type 0} {input : Option (List ℕ)} {s : Script} {head : Head} {old new : Hosts M} {source destination : PlaceState M} {result : Result Ending E} (status : Status) →
    IsTaken s → Spells input s → head ≡ s.head → IsOpened state Source head old.from source → IsOpened state Destination head old.to destination →
    HasGone state moves (start_of (serial s) (media_of source.namespace) (media_of destination.namespace) old.out) result new → IsAnswer result status → IsRun state moves input old status new
is_run {M} {state = state} {moves} {s = s} {head} {old} {new} {source} {destination} {result} status taken spelled same from to g answer =
    run_of status taken spelled (subst (λ (h : Head). IsOpened state Source h old.from source) same from) (subst (λ (h : Head). IsOpened state Destination h old.to destination) same to)
    (rw (← from.opened.media_are, ← to.opened.media_are) g) answer

-- a place is a new one for its script
pub new_place : {M I : Type 0} {state : M → MediumState I} {side : Side} {head other : Head} {media : List M} {place : PlaceState M} → head ≡ other → IsOpened state side head media place → IsNewPlace (phase_at side) other (media_of place.namespace) place
new_place {M} {side = side} {place = place} same o = subst (λ (h : Head). IsNewPlace (phase_at side) h (media_of place.namespace) place) same
    (record { namespace = o.opened.namespace; media_are = refl; windows = o.opened.windows; controller = o.opened.controller })

-- the output's count rose where it failed, and there alone
pub counted : {M I E : Type 0} {state : M → MediumState I} {moves : I → Step → Bool → I → Type 0} {from : Snapshot M} {result : Result Ending E} {new : Hosts M} → HasGone state moves from result new → RisesIf (is_err result) from.out.faults new.out.faults
counted {from = from} {result = result} g = subst (λ (o : SinkState). RisesIf (is_err result) from.out.faults o.faults) (sym g.left.out) g.ran.counted
