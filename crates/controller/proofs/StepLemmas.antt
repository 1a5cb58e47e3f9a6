use Rattle.std.proofs.Common.{◌≡◌, ◌⊎◌, ℕ, ◌+◌, ◌*◌, ◌<◌, ◌≤◌, List, [], ◌∷◌, ◌++◌, Some, Result, Ok, Err, IfOk, IfErr, drop, take, get_or, length, map, refl, sym, ap, ap₂, subst, ◌∙◌, append_assoc, append-nil, drop-set-lt, length-set, arith}
use Rattle.std.proofs.lemmas.List.{drop-drop, drop_more, length-append, length-map, length_push}
use Rattle.std.proofs.lemmas.List.Elements.{All-push}
use Rattle.mig_base.proofs.ListLemmas.{empty_list}
use Rattle.nvm_values.specs.declared.sqe.Sqe.{Sqe}
use Rattle.nvm_values.specs.Status.{StatusPair}
use Rattle.nvm_values.specs.Cqe.{CqeFields, cqe_bytes}
use Rattle.nvm_model.specs.declared.command.Command.{Command}
use Rattle.nvm_model.specs.declared.command.Outcome.{Outcome}
use Rattle.nvm_model.specs.declared.piece.Piece.{Piece}
use Rattle.nvm_model.specs.declared.piece.PieceResult.{PieceResult}
use Rattle.nvm_model.specs.Check.{checked_command}
use Rattle.nvm_model.specs.Memory.{page_at, written}
use Rattle.nvm_model.specs.Piece.{pieces_left}
use Rattle.nvm_model.specs.Ring.{CqState, places_between}
use Rattle.nvm_model.proofs.PlaceLemmas.{places_between-tail_more}
use Rattle.nvm_ring.specs.declared.place.BadDoorbell.{BadDoorbell}
use Rattle.nvm_ring.specs.Moves.{IsReadBack, after_fetch, after_post}
use Rattle.guest_ram.specs.Window.{WindowState, ctrl_written, data_pages}
use Rattle.hall.specs.Plan.{PlanState}
use Rattle.ctl_state.specs.Controller.{PairState}
use Rattle.controller.specs.Pair.{FetchSteps, FetchesTurn, IsFetched, MayFetch, PostSteps, PostsTurn, after_pieces, command_pieces, ended, free_places, lane_pieces, next_command, next_completion, outcomes_of, told_fetch, told_post, with_command, with_entry, with_pieces, with_post, worked}
use Rattle.controller.specs.Parts.{HasFetched, HasPosted, TakesEntry}
use Rattle.controller.proofs.PlanLemmas.{pieces_more, with_more}

-- The steps of a pair.

-- Fetches.

-- one more command was fetched
fetch_more : (blocks shelf : ℕ) (window : WindowState) (commands : List Command) (command : Command) (old now : PairState) → FetchSteps blocks shelf window commands old now → MayFetch now → command ≡ next_command blocks window now →
    FetchSteps blocks shelf window (commands ++ command ∷ []) old (with_command shelf command now)
fetch_more blocks shelf window [] command old now steps may is =
    subst (λ (p : PairState). MayFetch p × (command ≡ next_command blocks window p) × (with_command shelf command now ≡ with_command shelf command p)) steps (may, is, refl)
fetch_more blocks shelf window (c ∷ commands) command old now steps may is = (steps.0, steps.1, fetch_more blocks shelf window commands command (with_command shelf c old) now steps.2 may is)

-- what they leave of the pair
record HasAdded (shelf : ℕ) (commands : List Command) (old new : PairState) : Type 0 where
  commands_are : new.commands ≡ old.commands ++ commands
  fetched_are : new.fetched ≡ old.fetched ++ map (told_fetch shelf) commands

fetch_added : (blocks shelf : ℕ) (window : WindowState) (commands : List Command) (old new : PairState) → FetchSteps blocks shelf window commands old new → HasAdded shelf commands old new
fetch_added blocks shelf window [] old new steps = record {
  commands_are = ap (λ (p : PairState). p.commands) steps ∙ sym (append-nil old.commands);
  fetched_are = ap (λ (p : PairState). p.fetched) steps ∙ sym (append-nil old.fetched);
}
fetch_added blocks shelf window (c ∷ commands) old new steps =
    let rest = fetch_added blocks shelf window commands (with_command shelf c old) new steps.2 in
    record {
      commands_are = rest.commands_are ∙ append_assoc old.commands (c ∷ []) commands;
      fetched_are = rest.fetched_are ∙ append_assoc old.fetched (told_fetch shelf c ∷ []) (map (told_fetch shelf) commands);
    }

-- where none was fetched before, these are all
pub all_fetched : {k blocks shelf burst : ℕ} {window : WindowState} {plan new_plan : PlanState} {old new : PairState} (turn : FetchesTurn k blocks shelf burst window plan new_plan old new) → old.commands ≡ [] → new.commands ≡ turn.commands
all_fetched {blocks = blocks} {shelf} {window = window} {old = old} {new} turn none = (fetch_added blocks shelf window turn.commands old new turn.steps).commands_are ∙ ap (λ (cs : List Command). cs ++ turn.commands) none

-- an entry was taken, checked and told
pub one_fetched : (blocks shelf : ℕ) (window : WindowState) (pair took now : PairState) (entry : Sqe) (command : Command) (pieces : ℕ) → TakesEntry window pair took (Some entry) →
    command ≡ checked_command blocks window.lane (data_pages window) took.commands entry → pieces ≡ pieces_left shelf command →
    now ≡ record took { commands = took.commands ++ command ∷ []; fetched = took.fetched ++ (command.cid, command.status, pieces) ∷ [] } →
    (command ≡ next_command blocks window pair) × (now ≡ with_command shelf command pair)
one_fetched blocks shelf window pair took now entry command pieces is checked pieces_is now_is = (
  checked ∙ ap (λ (p : PairState). checked_command blocks window.lane (data_pages window) p.commands entry) is.2 ∙ ap (checked_command blocks window.lane (data_pages window) pair.commands) is.1,
  now_is ∙ ap (λ (p : PairState). record p { commands = p.commands ++ command ∷ []; fetched = p.fetched ++ (command.cid, command.status, pieces) ∷ [] }) is.2
      ∙ ap (λ (n : ℕ). record pair { sq = after_fetch pair.sq; commands = pair.commands ++ command ∷ []; fetched = pair.fetched ++ (command.cid, command.status, n) ∷ [] }) pieces_is,
)

-- so one more command was fetched
pub fetched_more : {k blocks shelf : ℕ} {window : WindowState} {plan mid new_plan : PlanState} {old pair now : PairState} (command : Command) → HasFetched k blocks shelf window plan mid old pair → MayFetch pair →
    (command ≡ next_command blocks window pair) × (now ≡ with_command shelf command pair) → new_plan ≡ with_pieces k (command_pieces k shelf command) mid → IsFetched blocks (length (data_pages window)) command → length (command_pieces k shelf command) ≤ 64 →
    1 ≤ k → k ≤ length plan.lanes → HasFetched k blocks shelf window plan new_plan old now
fetched_more {k} {blocks} {shelf} {window} {plan} {old = old} {pair} command h may one planned fits few low high =
    let before = lane_pieces k shelf h.commands in
    let all : lane_pieces k shelf (h.commands ++ command ∷ []) ≡ before ++ command_pieces k shelf command = pieces_more k shelf h.commands command in
    record {
      commands = h.commands ++ command ∷ [];
      steps = subst (λ (p : PairState). FetchSteps blocks shelf window (h.commands ++ command ∷ []) old p) (sym one.1) (fetch_more blocks shelf window h.commands command old pair h.steps may one.0);
      planned = planned ∙ ap (with_pieces k (command_pieces k shelf command)) h.planned ∙ with_more k before (command_pieces k shelf command) plan low high ∙ ap (λ (ps : List Piece). with_pieces k ps plan) (sym all);
      fits = All-push (IsFetched blocks (length (data_pages window))) h.commands command h.fits fits;
      few = omega (arith, ap length all, length-append before (command_pieces k shelf command), length_push h.commands command, h.few, few);
    }

-- as many more commands are there as were fetched
pub fetched_count : {k blocks shelf : ℕ} {window : WindowState} {plan mid : PlanState} {old pair : PairState} (h : HasFetched k blocks shelf window plan mid old pair) → length pair.commands ≡ length old.commands + length h.commands
fetched_count {blocks = blocks} {shelf} {window} {old = old} {pair} h = ap length (fetch_added blocks shelf window h.commands old pair h.steps).commands_are ∙ length-append old.commands h.commands

-- the fetches of a turn, once they stop
pub fetches_turn : {k blocks shelf burst : ℕ} {window : WindowState} {plan new_plan : PlanState} {old new : PairState} → HasFetched k blocks shelf window plan new_plan old new → length old.fetched ≡ length old.commands → length new.commands ≤ burst →
    (length new.commands ≡ burst) ⊎ (MayFetch new → ⊥) → FetchesTurn k blocks shelf burst window plan new_plan old new
fetches_turn {blocks = blocks} {shelf} {window = window} {old = old} {new} h told few stops =
    let added = fetch_added blocks shelf window h.commands old new h.steps in
    record {
      commands = h.commands;
      steps = h.steps;
      stops = stops;
      planned = h.planned;
      fits = h.fits;
      few = few;
      told = λ none. added.fetched_are ∙ ap (λ (fs : List (ℕ × StatusPair × ℕ)). fs ++ map (told_fetch shelf) h.commands) (empty_list old.fetched (told ∙ ap length none))
          ∙ ap (map (told_fetch shelf)) (sym (added.commands_are ∙ ap (λ (cs : List Command). cs ++ h.commands) none));
    }

-- Doorbells.

-- whatever is rung, the ring has as many places
pub rung_size : (value : ℕ) (old new : CqState) (result : Result (Unit {0}) BadDoorbell) → IfOk result (λ _. new ≡ record { ring = record old.ring { head = value }; phase = old.phase }) → IfErr result (λ _. new ≡ old) → new.ring.size ≡ old.ring.size
rung_size value old new (Ok a) moved same = ap (λ (q : CqState). q.ring.size) moved
rung_size value old new (Err bad) moved same = ap (λ (q : CqState). q.ring.size) same

-- one completion more takes one free place
pub post_frees : (cq : CqState) → cq.ring.head < cq.ring.size → cq.ring.tail < cq.ring.size → 1 ≤ free_places cq → free_places cq ≤ free_places (after_post cq) + 1
post_frees cq head tail room =
    let ring = cq.ring in
    let more = places_between-tail_more ring.size ring.head ring.tail (places_between ring.size ring.head ring.tail) head tail refl (omega (arith, room)) in
    omega (arith, more)

-- Posts.

-- one more completion was posted
posts_more : (k : ℕ) (told : List (ℕ × StatusPair)) (t : ℕ × StatusPair) (old now : PairState) (window now_window : WindowState) → PostSteps k told old window now now_window → IsReadBack (next_completion k t now) →
    PostSteps k (told ++ t ∷ []) old window (with_post t now) (with_entry (next_completion k t now) now now_window)
posts_more k [] t old now window now_window steps back =
    subst (λ (p : PairState). IsReadBack (next_completion k t p) × ((with_post t now ≡ with_post t p) × (with_entry (next_completion k t now) now now_window ≡ with_entry (next_completion k t p) p window))) steps.0
    (back, (refl, ap (with_entry (next_completion k t now) now) steps.1))
posts_more k (x ∷ told) t old now window now_window steps back =
    (steps.0, posts_more k told t (with_post x old) now (with_entry (next_completion k x old) old window) now_window steps.1 back)

pub one_posted : {k : ℕ} {all rest : List (ℕ × StatusPair)} {old now new : PairState} {window mid new_window : WindowState} (t : ℕ × StatusPair) (entry : CqeFields) → HasPosted k all (t ∷ rest) old window now mid →
    entry ≡ next_completion k t now → IsReadBack entry → new ≡ with_post t now → new_window ≡ ctrl_written mid 1 (16 * now.cq.ring.tail) (cqe_bytes entry) → HasPosted k all rest old window new new_window
one_posted {k} {rest = rest} {old} {now} {new} {window} {mid} {new_window} t entry h is back new_is written_is = record {
  done = h.done ++ t ∷ [];
  steps = subst (λ (w : WindowState). PostSteps k (h.done ++ t ∷ []) old window new w) (sym (written_is ∙ ap (λ (e : CqeFields). with_entry e now mid) is))
      (subst (λ (p : PairState). PostSteps k (h.done ++ t ∷ []) old window p (with_entry (next_completion k t now) now mid)) (sym new_is)
      (posts_more k h.done t old now window mid h.steps (subst IsReadBack is back)));
  all_is = h.all_is ∙ sym (append_assoc h.done (t ∷ []) rest);
}

pub posted_all : {k : ℕ} {all : List (ℕ × StatusPair)} {old now : PairState} {window now_window : WindowState} → HasPosted k all [] old window now now_window → PostSteps k all old window now now_window
posted_all {k} {old = old} {now} {window} {now_window} h = subst (λ (told : List (ℕ × StatusPair)). PostSteps k told old window now now_window) (sym (h.all_is ∙ append-nil h.done)) h.steps

-- what they leave of the pair and of the window
pub record HasKept (told : List (ℕ × StatusPair)) (old : PairState) (window : WindowState) (new : PairState) (new_window : WindowState) : Type 0 where
  pub posted : new.posted ≡ old.posted ++ told
  pub commands : new.commands ≡ old.commands
  pub fetched : new.fetched ≡ old.fetched
  pub memory : data_pages new_window ≡ data_pages window
  pub lane : new_window.lane ≡ window.lane
  pub size : length new_window.pages ≡ length window.pages

pub posts_kept : (k : ℕ) (told : List (ℕ × StatusPair)) (old new : PairState) (window new_window : WindowState) → PostSteps k told old window new new_window → HasKept told old window new new_window
posts_kept k [] old new window new_window steps = record {
  posted = ap (λ (p : PairState). p.posted) steps.0 ∙ sym (append-nil old.posted);
  commands = ap (λ (p : PairState). p.commands) steps.0;
  fetched = ap (λ (p : PairState). p.fetched) steps.0;
  memory = ap data_pages steps.1;
  lane = ap (λ (w : WindowState). w.lane) steps.1;
  size = ap (λ (w : WindowState). length w.pages) steps.1;
}
posts_kept k (t ∷ told) old new window new_window steps =
    let entry = next_completion k t old in
    let bytes = written (page_at window.pages 1) (16 * old.cq.ring.tail) (cqe_bytes entry) in
    let rest = posts_kept k told (with_post t old) new (with_entry entry old window) new_window steps.1 in
    record {
      posted = rest.posted ∙ append_assoc old.posted (t ∷ []) told;
      commands = rest.commands;
      fetched = rest.fetched;
      memory = rest.memory ∙ drop-set-lt 2 window.pages 1 bytes (omega arith);
      lane = rest.lane;
      size = rest.size ∙ length-set window.pages 1 bytes;
    }

-- Commands as their pieces ended.

-- the first of those that are left
pub ended_next : (commands : List Command) (fetched : List (ℕ × StatusPair × ℕ)) (outcomes : List Outcome) (place at : ℕ) (c : Command) (f : ℕ × StatusPair × ℕ) → place < length commands → length fetched ≡ length commands →
    ended (drop place commands) (drop place fetched) (drop at outcomes)
    ≡ after_pieces (get_or commands place c) (take (get_or fetched place f).2 (drop at outcomes)) ∷ ended (drop (place + 1) commands) (drop (place + 1) fetched) (drop (at + (get_or fetched place f).2) outcomes)
ended_next commands fetched outcomes place at c f there told =
    let n = (get_or fetched place f).2 in
    ap₂ (λ (cs : List Command) (fs : List (ℕ × StatusPair × ℕ)). ended cs fs (drop at outcomes)) (drop_more commands place c there) (drop_more fetched place f (omega (arith, there, told)))
    ∙ ap (λ (os : List Outcome). after_pieces (get_or commands place c) (take n (drop at outcomes)) ∷ ended (drop (place + 1) commands) (drop (place + 1) fetched) os) (drop-drop n at outcomes)

-- there are no more of them than of commands
ended_few : (commands : List Command) (fetched : List (ℕ × StatusPair × ℕ)) (outcomes : List Outcome) → length (ended commands fetched outcomes) ≤ length commands
ended_few [] fetched outcomes = omega arith
ended_few (c ∷ commands) [] outcomes = omega arith
ended_few (c ∷ commands) (f ∷ fetched) outcomes = let rest = ended_few commands fetched (drop f.2 outcomes) in omega (arith, rest)

-- and no more completions were posted
pub posted_few : (k : ℕ) (results : List PieceResult) (old new : PairState) (window new_window : WindowState) → PostsTurn k results window new_window old new → length new.posted ≤ length old.commands
posted_few k results old new window new_window steps =
    let over = ended old.commands old.fetched (outcomes_of results) in
    let kept = posts_kept k (map told_post over) (record old { commands = []; fetched = []; posted = [] }) new window new_window steps in
    omega (arith, ap length kept.posted, length-map over told_post, ended_few old.commands old.fetched (outcomes_of results))

-- where all that is told of them is so, they are as the model has them
pub ended_worked : (shelf : ℕ) (commands : List Command) (fetched : List (ℕ × StatusPair × ℕ)) (outcomes : List Outcome) → fetched ≡ map (told_fetch shelf) commands → ended commands fetched outcomes ≡ worked shelf commands outcomes
ended_worked shelf commands fetched outcomes told = ap (λ (fs : List (ℕ × StatusPair × ℕ)). ended commands fs outcomes) told ∙ same commands outcomes
  where
    same : (commands : List Command) (outcomes : List Outcome) → ended commands (map (told_fetch shelf) commands) outcomes ≡ worked shelf commands outcomes
    same [] outcomes = refl
    same (c ∷ commands) outcomes = ap (λ (cs : List Command). after_pieces c (take (pieces_left shelf c) outcomes) ∷ cs) (same commands (drop (pieces_left shelf c) outcomes))
