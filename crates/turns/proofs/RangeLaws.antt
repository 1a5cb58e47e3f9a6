use Rattle.std.proofs.Common.{◌≡◌, ℕ, ◌+◌, ◌-◌, ◌*◌, ◌/◌, ◌%◌, ◌^◌, ◌<◌, ◌≤◌, Bool, true, false, cond, List, [], ◌∷◌, Option, Some, None, All, length, map, take, drop, get_or, slice_set, refl, sym, ap, subst, ◌∙◌, arith, ltb}
use Rattle.std.specs.List.{AllByRecursion, slice_get}
use Rattle.std.specs.Option.{IfSome}
use Rattle.std.specs.Int.{w16, from_le_bytes}
use Rattle.std.proofs.lemmas.Bool.Decides.{nat_tests}
use Rattle.std.proofs.Math.Nat.{div-le_self, div-mul-le_self, max-le}
use Rattle.std.proofs.lemmas.Nat.{le-div, mod_below, mul-le}
use Rattle.std.proofs.lemmas.List.{length-take-le, length-drop, length-set}
use Rattle.std.proofs.lemmas.List.Elements.{All-nil, All-cons, All-head, All-tail, All-same, All-from_recursion, All-get_or, All-append, All-push, All-set, All-take, All-drop, recursion_from_All}
use Rattle.std.proofs.lemmas.Option.{get_or_from_slice_get, slice_get_within}
use Rattle.mig_base.specs.declared.span.Span.{Span}
use Rattle.nvm_values.specs.declared.op.Op.{Op}
use Rattle.nvm_values.specs.declared.op.Op.TheVariants.{Flush, Write, Read, Compare, WriteZeroes, Verify}
use Rattle.nvm_values.specs.declared.sqe.Sqe.{Sqe}
use Rattle.nvm_values.specs.Op.{op_of}
use Rattle.nvm_values.specs.Sqe.{count_of, slba_of, sqe_of}
use Rattle.nvm_values.specs.Status.{StatusPair, success, invalid_opcode, invalid_field, id_conflict, invalid_namespace, out_of_range}
use Rattle.nvm_model.specs.declared.command.Command.{Command}
use Rattle.nvm_model.specs.declared.command.Completion.{Completion}
use Rattle.nvm_model.specs.declared.command.Outcome.{Outcome}
use Rattle.nvm_model.specs.declared.command.Outcome.TheVariants.{Done, Faulted, Differs}
use Rattle.nvm_model.specs.declared.command.Work.{Work}
use Rattle.nvm_model.specs.declared.line.Line.{Line}
use Rattle.nvm_model.specs.declared.line.Line.TheVariants as line
use Rattle.nvm_model.specs.declared.script.Act.{Act}
use Rattle.nvm_model.specs.declared.script.Act.TheVariants.{Fill, Poke, List as PrpList, Submit, Raw, Wait, Idle}
use Rattle.nvm_model.specs.declared.script.LaneSet.{LaneSet}
use Rattle.nvm_model.specs.declared.script.Script.{Script}
use Rattle.nvm_model.specs.Check.{first_holding, identifiers, fetched_command, checked_command, opened, verdict, has_attributes, is_busy, is_unknown, has_other_namespace, is_flush, is_too_long, is_out_of_range, has_bad_pages}
use Rattle.nvm_model.specs.Event.{submitted_by, DoesAct, Reaps, Fetches, Posts, DoesPiece, LaneStep, One, lane_number}
use Rattle.nvm_model.specs.History.{Steps}
use Rattle.nvm_model.specs.Piece.{piece_count, piece_at, pieces_left, OutcomeFits, MovesTo, ComparesTo, digest_after, outcome_status, is_success, after_piece}
use Rattle.nvm_model.specs.ScriptText.{IsSet, IsAct, IsHead, IsScript}
use Rattle.nvm_model.specs.Text.{IsStatus, IsOutcome, IsDigest, DigestMayStand, IsLine}
use Rattle.nvm_model.specs.Turn.{Turns, events_in}
use Rattle.nvm_model.specs.World.{Lane, World, lane_of, new_lane, set_of, acts_of}
use Rattle.turns.specs.Range.{IsWorkOf, IsCommandOf, IsEntry, IsCompletion, IsInRange, AreInRange}
use Rattle.nvm_model.specs.Run.{start_lanes}
use Rattle.turns.proofs.DigestLaws.{is_digest}
use Rattle.turns.proofs.FrameLemmas.{turns_steps}
use Rattle.turns.proofs.ScriptLaws.{acts_few, acts_fit, set_fits}

-- The events of lanes whose numbers are in range are lines of a transcript.

-- new lanes are in range
new_in_range : (s : Script) (sets : List LaneSet) → AreInRange s (map (λ (set : LaneSet). new_lane set.pages) sets)
new_in_range s [] = tt
new_in_range s (set ∷ sets) = (
  record { entries = All-nil IsEntry; running = All-nil (IsCommandOf s.head.blocks); posted = All-nil IsCompletion },
  new_in_range s sets,
)

-- the lanes at the start are in range
pub start_in_range : (s : Script) → AreInRange s (start_lanes s)
start_in_range s = new_in_range s (take s.head.lanes s.head.sets)

-- a script and the number of a lane of it
record IsNumbered (s : Script) (k : ℕ) : Type 0 where
  head : IsHead s.head
  lane : (1 ≤ k) × (k ≤ 8)
  set_fits : IsSet (set_of s.head k)
  acts_fit : All (IsAct (set_of s.head k).pages) (acts_of k s.acts)
  few : length (acts_of k s.acts) ≤ 65536

-- what holds of each element holds of one that was got
all_at : {X : Type 0} (P : X → Type 0) (xs : List X) (i : ℕ) (x : X) → slice_get xs i ≡ Some x → All P xs → P x
all_at P xs i x at all = subst P (get_or_from_slice_get xs i x x at) (All-get_or P xs i x (slice_get_within xs i x at) all)

abbrev IsByte : ℕ → Type 0
IsByte byte = byte < 2 ^ 8

-- The guest's acts.

two_bytes : (bytes : List ℕ) → length bytes ≡ 2 → All IsByte bytes → from_le_bytes w16 bytes < 2 ^ 16
two_bytes bytes two all =
    let low : get_or bytes 0 0 < 2 ^ 8 = All-get_or IsByte bytes 0 0 (omega arith) all in
    let high : get_or bytes 1 0 < 2 ^ 8 = All-get_or IsByte bytes 1 0 (omega arith) all in
    omega arith

raw_cid : (entry : List ℕ) → length entry ≡ 64 → All IsByte entry → IsEntry (sqe_of entry)
raw_cid entry long all =
    let enough : 2 ≤ length (drop 2 entry) = rw length-drop (omega arith) in
    two_bytes (take 2 (drop 2 entry)) (length-take-le 2 (drop 2 entry) enough) (All-take IsByte 2 (drop 2 entry) (All-drop IsByte 2 entry all))

one_entry : (e : Sqe) → IsEntry e → All IsEntry (e ∷ [])
one_entry e is = All-cons IsEntry e [] is (All-nil IsEntry)

act_entries : (k pages : ℕ) (act : Act) → IsAct pages act → All IsEntry (submitted_by k act)
act_entries k pages (Submit cid op slba count p1 p2) is = one_entry _ is.0
act_entries k pages (Raw entry) is = one_entry _ (raw_cid entry is.0 is.1)
act_entries k pages (Fill page byte) is = All-nil IsEntry
act_entries k pages (Poke page at bytes used) is = All-nil IsEntry
act_entries k pages (PrpList page named used) is = All-nil IsEntry
act_entries k pages Wait is = All-nil IsEntry
act_entries k pages Idle is = All-nil IsEntry

act_in_range : (s : Script) (k n : ℕ) (lane new : Lane) → IsNumbered s k → IsInRange s lane → DoesAct s k n lane new → IsLine (line.Act k n) × IsInRange s new
act_in_range s k n lane new numbered range does =
    let acts = acts_of k s.acts in
    let fits : IsAct (set_of s.head k).pages does.act = all_at (IsAct (set_of s.head k).pages) acts lane.acts does.act does.due numbered.acts_fit in
    let there : lane.acts < length acts = slice_get_within acts lane.acts does.act does.due in (
      (numbered.lane.0, numbered.lane.1, omega (arith, there, numbered.few, does.number)),
      subst (IsInRange s) (sym does.after) (record {
        entries = All-append IsEntry lane.submitted (submitted_by k does.act) range.entries (act_entries k (set_of s.head k).pages does.act fits);
        running = range.running;
        posted = range.posted;
      }),
    )

reap_in_range : (s : Script) (k : ℕ) (completion : Completion) (lane new : Lane) → IsNumbered s k → IsInRange s lane → Reaps completion lane new →
    IsLine (line.Reap k completion.cid completion.status completion.head completion.phase) × IsInRange s new
reap_in_range s k completion lane new numbered range reaps =
    let one : IsCompletion completion = all_at IsCompletion lane.posted lane.reaped completion reaps.oldest range.posted in (
      ((numbered.lane.0, numbered.lane.1, one.0), one.1, one.2),
      subst (IsInRange s) (sym reaps.after) (record { entries = range.entries; running = range.running; posted = range.posted }),
    )

-- The controller's fetches.

status_if : (b : Bool) (x : StatusPair) (r : Option StatusPair) → IsStatus x → IfSome r IsStatus → IfSome (cond b (Some x) r) IsStatus
status_if true x r is others = is
status_if false x r is others = others

-- what each test's status is, the first that holds has
first_status : (tests : List (Bool × StatusPair)) → AllByRecursion (λ (t : Bool × StatusPair). IsStatus t.1) tests → IfSome (first_holding tests) IsStatus
first_status [] all = tt
first_status (t ∷ tests) all = status_if t.0 t.1 (first_holding tests) all.0 (first_status tests all.1)

-- the eight tests
abbrev tests : ℕ → ℕ → List (List ℕ) → List ℕ → Sqe → List (Bool × StatusPair)
tests blocks lane memory busy e =
    (has_attributes e, invalid_field)
    ∷ (is_busy e.cid busy, id_conflict)
    ∷ (is_unknown e, invalid_opcode)
    ∷ (has_other_namespace e, invalid_namespace)
    ∷ (is_flush e, success)
    ∷ (is_too_long e, invalid_field)
    ∷ (is_out_of_range blocks e, out_of_range)
    ∷ (has_bad_pages lane memory e, invalid_field)
    ∷ []

verdict_is : (blocks lane : ℕ) (memory : List (List ℕ)) (busy : List ℕ) (e : Sqe) → verdict blocks lane memory busy e ≡ first_holding (tests blocks lane memory busy e)
unfolding verdict
verdict_is blocks lane memory busy e = refl

tests_status : (blocks lane : ℕ) (memory : List (List ℕ)) (busy : List ℕ) (e : Sqe) → IfSome (first_holding (tests blocks lane memory busy e)) IsStatus
tests_status blocks lane memory busy e =
    first_status (tests blocks lane memory busy e)
    ((omega arith, omega arith), ((omega arith, omega arith), ((omega arith, omega arith), ((omega arith, omega arith), ((omega arith, omega arith), ((omega arith, omega arith), ((omega arith, omega arith), ((omega arith, omega arith), tt))))))))

-- where no test of a list holds, neither the first does nor one behind it
none_first : (b : Bool) (x : StatusPair) (r : Option StatusPair) → None ≡ cond b (Some x) r → (b ≡ false) × (None ≡ r)
none_first true x r h = cc
none_first false x r h = (refl, h)

abbrev NoneHolds : List (Bool × StatusPair) → Type 0
NoneHolds [] = Unit {0}
NoneHolds (t ∷ ts) = (t.0 ≡ false) × NoneHolds ts

none_hold : (ts : List (Bool × StatusPair)) → None ≡ first_holding ts → NoneHolds ts
none_hold [] h = tt
none_hold (t ∷ ts) h = let first = none_first t.0 t.1 (first_holding ts) h in (first.0, none_hold ts first.1)

-- the work of an entry that passed
opened_work : (blocks lane : ℕ) (memory : List (List ℕ)) (e : Sqe) (op : Option Op) → count_of e ≤ 64 → slba_of e + count_of e ≤ blocks → IfSome (opened lane memory e op) (IsWorkOf blocks)
opened_work blocks lane memory e None short within = tt
opened_work blocks lane memory e (Some op) short within = (omega arith, short, within)

decided_in_range : (blocks lane : ℕ) (memory : List (List ℕ)) (busy : List ℕ) (e : Sqe) (v : Option StatusPair) → v ≡ first_holding (tests blocks lane memory busy e) → IfSome v IsStatus → IsEntry e → IsCommandOf blocks (fetched_command v lane memory e)
decided_in_range blocks lane memory busy e (Some status) same fits is = record { cid = is; status = fits; work = tt }
decided_in_range blocks lane memory busy e None same fits is =
    let none = none_hold (tests blocks lane memory busy e) same in
    let not_long : ltb 64 (count_of e) ≡ false = none.1.1.1.1.1.0 in
    let not_past : ltb blocks (slba_of e + count_of e) ≡ false = none.1.1.1.1.1.1.0 in
    record { cid = is; status = (omega arith, omega arith); work = opened_work blocks lane memory e (op_of e.opcode) (grind (arith, nat_tests)) (grind (arith, nat_tests)) }

-- the command that a fetch makes
checked_in_range : (blocks lane : ℕ) (memory : List (List ℕ)) (running : List Command) (e : Sqe) → IsEntry e → IsCommandOf blocks (checked_command blocks lane memory running e)
checked_in_range blocks lane memory running e is =
    let busy = identifiers running in
    let same = verdict_is blocks lane memory busy e in
    decided_in_range blocks lane memory busy e (verdict blocks lane memory busy e) same (subst (λ (v : Option StatusPair). IfSome v IsStatus) (sym same) (tests_status blocks lane memory busy e)) is

left_few : (shelf blocks cid : ℕ) (status : StatusPair) (work : Option Work) → blocks ≤ 131072 → IfSome work (IsWorkOf blocks) → pieces_left shelf (record { cid = cid; status = status; work = work }) < 2 ^ 32
left_few shelf blocks cid status None small is = omega arith
left_few shelf blocks cid status (Some work) small is =
    let last : (work.span.first + work.span.count - 1) / shelf ≤ work.span.first + work.span.count - 1 = div-le_self (work.span.first + work.span.count - 1) shelf in
    omega arith

fetch_in_range : (s : Script) (k cid : ℕ) (status : StatusPair) (pieces : ℕ) (lane new : Lane) → IsNumbered s k → IsInRange s lane → Fetches s k cid status pieces lane new →
    IsLine (line.Fetch k cid status pieces) × IsInRange s new
fetch_in_range s k cid status pieces lane new numbered range fetches =
    let c = fetches.command in
    let entry : IsEntry fetches.entry = all_at IsEntry lane.submitted lane.fetched fetches.entry fetches.oldest range.entries in
    let one : IsCommandOf s.head.blocks c = subst (IsCommandOf s.head.blocks) (sym fetches.checked) (checked_in_range s.head.blocks k lane.pages lane.running fetches.entry entry) in (
      (
        (numbered.lane.0, numbered.lane.1, subst (λ n. n < 2 ^ 16) (sym fetches.cid_is) one.cid),
        subst IsStatus (sym fetches.status_is) one.status,
        subst (λ n. n < 2 ^ 32) (sym fetches.pieces_is) (left_few s.head.shelf s.head.blocks c.cid c.status c.work numbered.head.blocks.1 one.work),
      ),
      subst (IsInRange s) (sym fetches.after) (record {
        entries = range.entries;
        running = All-push (IsCommandOf s.head.blocks) lane.running c range.running one;
        posted = range.posted;
      }),
    )

-- The pieces.

-- a piece lies within its command's range
piece_within : (shelf : ℕ) (span : Span) (i : ℕ) → 1 ≤ shelf → 1 ≤ span.count → i < piece_count shelf span →
    ((piece_at shelf span i).first ≤ span.first + span.count) × ((piece_at shelf span i).count ≤ span.first + span.count)
piece_within shelf span i some full left =
    let last = span.first + span.count - 1 in
    let begins : span.first / shelf * shelf ≤ span.first = div-mul-le_self span.first shelf in
    let order : span.first / shelf ≤ last / shelf = le-div (span.first / shelf) last shelf some (omega arith) in
    let below : (span.first / shelf + i) * shelf ≤ last / shelf * shelf = mul-le (span.first / shelf + i) shelf (last / shelf) shelf (omega arith) (omega arith) in
    let ends : last / shelf * shelf ≤ last = div-mul-le_self last shelf in
    (max-le (omega arith) (omega arith), omega arith)

moved_fits : (count : ℕ) (outcome : Outcome) → MovesTo count outcome → count < 2 ^ 32 → IsOutcome outcome
moved_fits count Done fits few = tt
moved_fits count (Faulted at) fits few = omega arith
moved_fits count (Differs at) fits few = absurd fits

compared_fits : (same : ℕ → Type 0) (count : ℕ) (outcome : Outcome) → ComparesTo same count outcome → count < 2 ^ 32 → IsOutcome outcome
compared_fits same count Done fits few = tt
compared_fits same count (Faulted at) fits few = omega (arith, fits.0)
compared_fits same count (Differs at) fits few = omega (arith, fits.0)

-- an outcome stands at a block of its piece
outcome_fits : (op : Op) (same : ℕ → Type 0) (count : ℕ) (outcome : Outcome) → OutcomeFits op same count outcome → count < 2 ^ 32 → IsOutcome outcome
outcome_fits Compare same count outcome fits few = compared_fits same count outcome fits few
outcome_fits Write same count outcome fits few = moved_fits count outcome fits few
outcome_fits Read same count outcome fits few = moved_fits count outcome fits few
outcome_fits WriteZeroes same count outcome fits few = moved_fits count outcome fits few
outcome_fits Verify same count outcome fits few = moved_fits count outcome fits few
outcome_fits Flush same count outcome fits few = absurd fits

-- no digest stands beside `differs`
digest_may : (op : Op) (same : ℕ → Type 0) (count first n : ℕ) (blocks : List (List ℕ)) (outcome : Outcome) (digest : Option (List ℕ)) →
    OutcomeFits op same count outcome → digest ≡ digest_after op first n blocks → DigestMayStand outcome digest
digest_may op same count first n blocks Done digest fits is = tt
digest_may op same count first n blocks (Faulted at) digest fits is = tt
digest_may op same count first n blocks (Differs at) None fits is = tt
digest_may Compare same count first n blocks (Differs at) (Some digest) fits is = cc
digest_may Write same count first n blocks (Differs at) (Some digest) fits is = absurd fits
digest_may Read same count first n blocks (Differs at) (Some digest) fits is = absurd fits
digest_may WriteZeroes same count first n blocks (Differs at) (Some digest) fits is = absurd fits
digest_may Verify same count first n blocks (Differs at) (Some digest) fits is = absurd fits
digest_may Flush same count first n blocks (Differs at) (Some digest) fits is = absurd fits

is_outcome_status : (op : Op) (outcome : Outcome) → IsStatus (outcome_status op outcome)
is_outcome_status op Done = (omega arith, omega arith)
is_outcome_status op (Differs at) = (omega arith, omega arith)
is_outcome_status Write (Faulted at) = (omega arith, omega arith)
is_outcome_status WriteZeroes (Faulted at) = (omega arith, omega arith)
is_outcome_status Read (Faulted at) = (omega arith, omega arith)
is_outcome_status Compare (Faulted at) = (omega arith, omega arith)
is_outcome_status Verify (Faulted at) = (omega arith, omega arith)
is_outcome_status Flush (Faulted at) = (omega arith, omega arith)

one_of_both : (b : Bool) (x y : StatusPair) → IsStatus x → IsStatus y → IsStatus (cond b x y)
one_of_both true x y is other = is
one_of_both false x y is other = other

-- a command after its next piece
after_in_range : (blocks : ℕ) (c : Command) (work : Work) (outcome : Outcome) → c.work ≡ Some work → IsCommandOf blocks c → IsCommandOf blocks (after_piece c work outcome)
after_in_range blocks c work outcome has is = record {
  cid = is.cid;
  status = one_of_both (is_success c.status) (outcome_status work.op outcome) c.status (is_outcome_status work.op outcome) is.status;
  work = subst (λ (o : Option Work). IfSome o (IsWorkOf blocks)) has is.work;
}

piece_in_range : (s : Script) (k cid first count : ℕ) (outcome : Outcome) (digest : Option (List ℕ)) (blocks : List (List ℕ)) (lane : Lane) (new_blocks : List (List ℕ)) (new : Lane) →
    IsNumbered s k → IsInRange s lane → DoesPiece s cid first count outcome digest blocks lane new_blocks new → IsLine (line.Piece k cid first count outcome digest) × IsInRange s new
piece_in_range s k cid first count outcome digest blocks lane new_blocks new numbered range does =
    let c = does.command in
    let work = does.work in
    let did = does.does in
    let one : IsCommandOf s.head.blocks c = all_at (IsCommandOf s.head.blocks) lane.running does.place c does.at_place range.running in
    let own : IsWorkOf s.head.blocks work = subst (λ (o : Option Work). IfSome o (IsWorkOf s.head.blocks)) does.work_is one.work in
    let within = piece_within s.head.shelf work.span work.done numbered.head.shelf.0 own.0 does.left in
    let first_few : first < 2 ^ 32 = omega (arith, did.first_is, within.0, own.2, numbered.head.blocks.1) in
    let few : count < 2 ^ 32 = omega (arith, did.count_is, within.1, own.2, numbered.head.blocks.1) in (
      (
        (numbered.lane.0, numbered.lane.1, subst (λ n. n < 2 ^ 16) (sym does.cid_is) one.cid),
        first_few,
        few,
        outcome_fits work.op _ count outcome did.fits few,
        subst IsDigest (sym did.digest_is) (is_digest work.op first _ blocks),
        digest_may work.op _ count first _ blocks outcome digest did.fits did.digest_is,
      ),
      subst (IsInRange s) (sym does.after) (record {
        entries = range.entries;
        running = All-set (IsCommandOf s.head.blocks) lane.running does.place (after_piece c work outcome) (after_in_range s.head.blocks c work outcome does.work_is one) range.running;
        posted = range.posted;
      }),
    )

-- The posts.

post_in_range : (s : Script) (k cid : ℕ) (status : StatusPair) (lane new : Lane) → IsNumbered s k → IsInRange s lane → Posts s k cid status lane new → IsLine (line.Post k cid status) × IsInRange s new
post_in_range s k cid status lane new numbered range posts =
    let c = posts.command in
    let sq = (set_of s.head k).sq in
    let all = All-same (IsCommandOf s.head.blocks) (c ∷ posts.others) lane.running (sym posts.oldest) range.running in
    let one : IsCommandOf s.head.blocks c = All-head (IsCommandOf s.head.blocks) c posts.others all in
    let its_cid : cid < 2 ^ 16 = subst (λ n. n < 2 ^ 16) (sym posts.cid_is) one.cid in
    let its_status : IsStatus status = subst IsStatus (sym posts.status_is) one.status in
    let head : lane.fetched % sq < sq = mod_below lane.fetched sq (omega (arith, numbered.set_fits.0)) in (
      ((numbered.lane.0, numbered.lane.1, its_cid), its_status),
      subst (IsInRange s) (sym posts.after) (record {
        entries = range.entries;
        running = All-tail (IsCommandOf s.head.blocks) c posts.others all;
        posted = All-push IsCompletion lane.posted _ range.posted (its_cid, its_status, omega (arith, head, numbered.set_fits.1));
      }),
    )

-- an event of a lane in range is a line, and leaves it in range
step_in_range : (s : Script) (e : Line) (blocks : List (List ℕ)) (lane : Lane) (new_blocks : List (List ℕ)) (new : Lane) →
    IsNumbered s (lane_number e) → IsInRange s lane → LaneStep s e blocks lane new_blocks new → IsLine e × IsInRange s new
step_in_range s (line.Act k n) blocks lane new_blocks new numbered range h = act_in_range s k n lane new numbered range h.1
step_in_range s (line.Reap k cid status head phase) blocks lane new_blocks new numbered range h = reap_in_range s k _ lane new numbered range h.1
step_in_range s (line.Fetch k cid status pieces) blocks lane new_blocks new numbered range h = fetch_in_range s k cid status pieces lane new numbered range h.1
step_in_range s (line.Piece k cid first count outcome digest) blocks lane new_blocks new numbered range h =
    piece_in_range s k cid first count outcome digest blocks lane new_blocks new numbered range h
step_in_range s (line.Post k cid status) blocks lane new_blocks new numbered range h = post_in_range s k cid status lane new numbered range h.1
step_in_range s line.Title blocks lane new_blocks new numbered range h = absurd h
step_in_range s line.Ready blocks lane new_blocks new numbered range h = absurd h
step_in_range s line.Migrate blocks lane new_blocks new numbered range h = absurd h
step_in_range s line.Restart blocks lane new_blocks new numbered range h = absurd h
step_in_range s (line.Round owed pages) blocks lane new_blocks new numbered range h = absurd h
step_in_range s line.Suspend blocks lane new_blocks new numbered range h = absurd h
step_in_range s (line.Pause owed pages) blocks lane new_blocks new numbered range h = absurd h
step_in_range s line.ResumeTo blocks lane new_blocks new numbered range h = absurd h
step_in_range s line.GiveUp blocks lane new_blocks new numbered range h = absurd h
step_in_range s line.End blocks lane new_blocks new numbered range h = absurd h

-- an event keeps the number of lanes
one_lanes : (s : Script) (w : World) (e : Line) (v : World) → One s w e v → length v.lanes ≡ length w.lanes
one_lanes s w e v h = ap (λ (u : World). length u.lanes) h.after ∙ length-set w.lanes (lane_number e - 1) h.lane

-- an event of a lane of the script is a line, and leaves all lanes in range
one_is_line : (s : Script) (w : World) (e : Line) (v : World) → IsScript s → length w.lanes ≡ s.head.lanes → AreInRange s w.lanes → One s w e v → IsLine e × AreInRange s v.lanes
one_is_line s w e v script count range h =
    let k = lane_number e in
    let there : k ≤ s.head.lanes = omega (arith, h.there.1, count) in
    let numbered : IsNumbered s k = record {
      head = script.head;
      lane = (h.there.0, omega (arith, there, script.head.lanes.1));
      set_fits = set_fits s.head k script.head h.there.0 there;
      acts_fit = All-from_recursion (IsAct (set_of s.head k).pages) (acts_of k s.acts) (acts_fit s.head k s.acts script.acts);
      few = omega (arith, acts_few k s.acts, script.few);
    } in
    let lanes : All (IsInRange s) w.lanes = All-from_recursion (IsInRange s) w.lanes range in
    let within : k - 1 < length w.lanes = omega (arith, h.there.0, h.there.1) in
    let own : IsInRange s (lane_of w k) = All-get_or (IsInRange s) w.lanes (k - 1) (new_lane 0) within lanes in
    let one = step_in_range s e w.blocks (lane_of w k) h.blocks h.lane numbered own h.step in
    (one.0, subst (λ (u : World). AreInRange s u.lanes) (sym h.after) (recursion_from_All (IsInRange s) (slice_set w.lanes (k - 1) h.lane) (All-set (IsInRange s) w.lanes (k - 1) h.lane one.1 lanes)))

-- events of lanes in range are lines, and leave them in range
pub steps_are_lines : (s : Script) (w : World) (events : List Line) (v : World) → IsScript s → length w.lanes ≡ s.head.lanes → AreInRange s w.lanes → Steps s w events v →
    AllByRecursion IsLine events × AreInRange s v.lanes × (length v.lanes ≡ s.head.lanes)
steps_are_lines s w [] v script count range h =
    (tt, subst (λ (u : World). AreInRange s u.lanes) (sym h) range, ap (λ (u : World). length u.lanes) h ∙ count)
steps_are_lines s w (e ∷ events) v script count range h =
    let one = one_is_line s w e h.0 script count range h.1 in
    let others = steps_are_lines s h.0 events v script (one_lanes s w e h.0 h.1 ∙ count) one.1 h.2 in
    ((one.0, others.0), others.1, others.2)

-- so are the events of turns
pub turns_are_lines : (s : Script) (n : ℕ) (w : World) (turns : List (List Line)) (v : World) → IsScript s → length w.lanes ≡ s.head.lanes → AreInRange s w.lanes → Turns s n w turns v →
    AllByRecursion IsLine (events_in turns) × AreInRange s v.lanes × (length v.lanes ≡ s.head.lanes)
turns_are_lines s n w turns v script count range h = steps_are_lines s w (events_in turns) v script count range (turns_steps s n w turns v h)
