use Rattle.std.proofs.Common.{◌≡◌, ℕ, ◌+◌, ◌-◌, ◌/◌, ◌<◌, ◌≤◌, ⊎_elim, All, IfSome, List, [], ◌∷◌, ◌++◌, Option, Some, drop, take, get_or, length, set, slice_get, slice_set, refl, sym, ap, subst, ◌∙◌, arith}
use Rattle.std.proofs.Math.Seq.{map-set_same}
use Rattle.std.proofs.lemmas.List.{drop_all, drop-set-add, get_or-drop, get_or-set_other, get_or-set_same, get_or_append_left, get_or_push, length-drop, length-set, length_push}
use Rattle.std.proofs.lemmas.Bool.{cases_eq, cases_lt}
use Rattle.nvm_model.specs.declared.command.Command.{Command}
use Rattle.nvm_model.specs.declared.command.Outcome.{Outcome}
use Rattle.nvm_model.specs.declared.command.Work.{Work}
use Rattle.nvm_model.specs.declared.script.Script.{Script}
use Rattle.nvm_model.specs.Check.{identifiers}
use Rattle.nvm_model.specs.Event.{DoesPiece, DoesWork}
use Rattle.nvm_model.specs.Piece.{after_piece, piece_at, piece_count, pieces_left}
use Rattle.nvm_model.specs.World.{IsQuiet, Lane}
use Rattle.nvm_blocks.specs.Work.{HasPages, IsForShelf}
use Rattle.guest_ram.specs.Window.{WindowState, data_pages}
use Rattle.nvm_cmd.specs.Answer.{IsRunnable, command_of, job_of}
use Rattle.nvm_cmd.specs.declared.job.Checked.{Checked}
use Rattle.nvm_cmd.specs.declared.job.Checked.TheVariants.{Refused, Run}
use Rattle.nvm_cmd.specs.Cut.{IsPartOf, piece_of}
use Rattle.turns.proofs.EventLaws.{one_place, some_left}
use Rattle.turns.proofs.PlanLemmas.{one_value}
use Rattle.judge.specs.declared.lane.JudgedLane.{JudgedLane}
use Rattle.judge.specs.Lane.{AreDoable, IsAtWork, IsDoable, IsLaneOf, IsNamed, IsSound, model_of}
use Rattle.judge.specs.Piece.{EndsSo}

-- Lanes: what a lane keeps, and what makes the step of a piece or shows that there is none.

-- nothing of a lane is under way where a completion of each entry was reaped
pub quiet_all : (j : JudgedLane) → IsSound j → j.reaped ≡ length j.submitted.items → IsQuiet (model_of j)
quiet_all j sound all =
    let n = sound.counted in
    record {
      all_fetched = omega (arith, all, n.fetched_is, n.posted_is, n.reaped_is);
      none_running = drop_all (length j.posted.items) j.commands.items (omega (arith, all, n.fetched_is, n.posted_is, n.reaped_is));
      all_reaped = omega (arith, all, n.fetched_is, n.posted_is, n.reaped_is);
    }

pub all_quiet : (j : JudgedLane) → IsSound j → IsQuiet (model_of j) → j.reaped ≡ length j.submitted.items
all_quiet j sound quiet =
    let n = sound.counted in
    let none : length (drop (length j.posted.items) j.commands.items) ≡ 0 = ap (λ (cs : List Command). length cs) quiet.none_running in
    omega (arith, quiet.all_fetched, quiet.all_reaped, none, length-drop (length j.posted.items) j.commands.items, n.posted_is)

-- Pieces.

-- a piece of a command's work, as it stands in the model
ends_work : (k cid shelf : ℕ) (work : Work) (outcome : Outcome) (digest : Option (List ℕ)) (blocks memory new_blocks new_memory : List (List ℕ)) →
    EndsSo (piece_of k shelf work.done (job_of cid work)) outcome digest blocks memory new_blocks new_memory →
    DoesWork shelf work (piece_at shelf work.span work.done).first (piece_at shelf work.span work.done).count outcome digest blocks memory new_blocks new_memory
ends_work k cid shelf work outcome digest blocks memory new_blocks new_memory e =
    record { first_is = refl; count_is = refl; fits = e.fits; digest_is = e.digest_is; blocks_is = e.blocks_is; memory_is = e.memory_is }

work_ends : (k cid shelf : ℕ) (work : Work) (outcome : Outcome) (digest : Option (List ℕ)) (blocks memory new_blocks new_memory : List (List ℕ)) →
    DoesWork shelf work (piece_at shelf work.span work.done).first (piece_at shelf work.span work.done).count outcome digest blocks memory new_blocks new_memory →
    EndsSo (piece_of k shelf work.done (job_of cid work)) outcome digest blocks memory new_blocks new_memory
work_ends k cid shelf work outcome digest blocks memory new_blocks new_memory d = record { fits = d.fits; digest_is = d.digest_is; blocks_is = d.blocks_is; memory_is = d.memory_is }

pub work_left : (shelf : ℕ) (command : Command) (work : Work) → command.work ≡ Some work → 1 ≤ pieces_left shelf command → work.done < piece_count shelf work.span
work_left shelf command work is left = let count : pieces_left shelf command ≡ piece_count shelf work.span - work.done = rw is refl in omega (arith, count, left)

pub piece_done : {s : Script} {j : JudgedLane} {cid first count place : ℕ} {command : Command} {work : Work} {outcome : Outcome} {digest : Option (List ℕ)} {blocks new_blocks memory : List (List ℕ)} {new : Lane} → IsLaneOf s j →
    IsAtWork j.shelf (model_of j).running place command work → IsNamed cid first count command.cid (piece_at j.shelf work.span work.done) →
    EndsSo (piece_of j.lane j.shelf work.done (job_of command.cid work)) outcome digest blocks (model_of j).pages new_blocks memory →
    new ≡ record (model_of j) { pages = memory; running = slice_set (model_of j).running place (after_piece command work outcome) } →
    DoesPiece s cid first count outcome digest blocks (model_of j) new_blocks new
piece_done {s} {j} {cid} {first} {count} {place} {command} {work} {outcome} {digest} {blocks} {new_blocks} {memory} {new} of at named ends after =
    let does = ends_work j.lane command.cid j.shelf work outcome digest blocks (model_of j).pages new_blocks memory ends in
    let told : DoesWork j.shelf work first count outcome digest blocks (model_of j).pages new_blocks memory =
    subst (λ (n : ℕ). DoesWork j.shelf work n count outcome digest blocks (model_of j).pages new_blocks memory) (sym named.first_is)
    (subst (λ (n : ℕ). DoesWork j.shelf work (piece_at j.shelf work.span work.done).first n outcome digest blocks (model_of j).pages new_blocks memory) (sym named.count_is) does) in
    record {
      place = place;
      command = command;
      work = work;
      memory = memory;
      at_place = at.at_place;
      earlier = subst (λ (shelf : ℕ). All (λ (c : Command). pieces_left shelf c ≡ 0) (take place (model_of j).running)) of.shelf_is at.earlier;
      work_is = at.work_is;
      left = subst (λ (shelf : ℕ). work.done < piece_count shelf work.span) of.shelf_is (work_left j.shelf command work at.work_is at.left);
      cid_is = named.cid_is;
      does = subst (λ (shelf : ℕ). DoesWork shelf work first count outcome digest blocks (model_of j).pages new_blocks memory) of.shelf_is told;
      after = after;
    }

-- a piece of this lane is one of that command
record IsOf (s : Script) (j : JudgedLane) (cid first count : ℕ) (outcome : Outcome) (digest : Option (List ℕ)) (blocks : List (List ℕ)) (command : Command) (work : Work) (new_blocks : List (List ℕ)) : Type 0 where
  named : IsNamed cid first count command.cid (piece_at j.shelf work.span work.done)
  memory : List (List ℕ)
  does : DoesWork j.shelf work first count outcome digest blocks (model_of j).pages new_blocks memory

piece_of_it : {s : Script} {j : JudgedLane} {cid first count place : ℕ} {command : Command} {work : Work} {outcome : Outcome} {digest : Option (List ℕ)} {blocks : List (List ℕ)} → IsLaneOf s j → IsAtWork j.shelf (model_of j).running place command work →
    (x : List (List ℕ) × Lane) → DoesPiece s cid first count outcome digest blocks (model_of j) x.0 x.1 → IsOf s j cid first count outcome digest blocks command work x.0
piece_of_it {s} {j} {cid} {first} {count} {place} {command} {work} {outcome} {digest} {blocks} of at x d =
    let running = (model_of j).running in
    let zero : Command → Type 0 = λ (c : Command). pieces_left s.head.shelf c ≡ 0 in
    let earlier : All zero (take place running) = subst (λ (shelf : ℕ). All (λ (c : Command). pieces_left shelf c ≡ 0) (take place running)) of.shelf_is at.earlier in
    let left : work.done < piece_count s.head.shelf work.span = subst (λ (shelf : ℕ). work.done < piece_count shelf work.span) of.shelf_is (work_left j.shelf command work at.work_is at.left) in
    let place_is : d.place ≡ place = one_place zero running place d.place command d.command earlier d.earlier at.at_place d.at_place (some_left s.head.shelf command work at.work_is left) (some_left s.head.shelf d.command d.work d.work_is d.left) in
    let at_place : slice_get running place ≡ Some d.command = subst (λ (i : ℕ). slice_get running i ≡ Some d.command) place_is d.at_place in
    let command_is : d.command ≡ command = one_value at_place at.at_place in
    let work_of : command.work ≡ Some d.work = subst (λ (c : Command). c.work ≡ Some d.work) command_is d.work_is in
    let work_is : d.work ≡ work = one_value work_of at.work_is in
    let does : DoesWork j.shelf work first count outcome digest blocks (model_of j).pages x.0 d.memory =
    subst (λ (shelf : ℕ). DoesWork shelf work first count outcome digest blocks (model_of j).pages x.0 d.memory) (sym of.shelf_is)
    (subst (λ (w : Work). DoesWork s.head.shelf w first count outcome digest blocks (model_of j).pages x.0 d.memory) work_is d.does) in
    record { named = record { cid_is = d.cid_is ∙ ap (λ (c : Command). c.cid) command_is; first_is = does.first_is; count_is = does.count_is }; memory = d.memory; does = does }

pub piece_not_named : {s : Script} {j : JudgedLane} {cid first count place : ℕ} {command : Command} {work : Work} {outcome : Outcome} {digest : Option (List ℕ)} {blocks : List (List ℕ)} → IsLaneOf s j →
    IsAtWork j.shelf (model_of j).running place command work → (IsNamed cid first count command.cid (piece_at j.shelf work.span work.done) → ⊥) →
    (x : List (List ℕ) × Lane) → DoesPiece s cid first count outcome digest blocks (model_of j) x.0 x.1 → ⊥
piece_not_named of at not x d = not (piece_of_it of at x d).named

pub piece_not_so : {s : Script} {j : JudgedLane} {cid first count place : ℕ} {command : Command} {work : Work} {outcome : Outcome} {digest : Option (List ℕ)} {blocks : List (List ℕ)} → IsLaneOf s j →
    IsAtWork j.shelf (model_of j).running place command work →
    ((y : List (List ℕ) × List (List ℕ)) → EndsSo (piece_of j.lane j.shelf work.done (job_of command.cid work)) outcome digest blocks (model_of j).pages y.0 y.1 → ⊥) →
    (x : List (List ℕ) × Lane) → DoesPiece s cid first count outcome digest blocks (model_of j) x.0 x.1 → ⊥
piece_not_so {s} {j} {cid} {first} {count} {place} {command} {work} {outcome} {digest} {blocks} of at not x d =
    let p = piece_of_it of at x d in
    let does : DoesWork j.shelf work (piece_at j.shelf work.span work.done).first (piece_at j.shelf work.span work.done).count outcome digest blocks (model_of j).pages x.0 p.memory =
    subst (λ (n : ℕ). DoesWork j.shelf work n (piece_at j.shelf work.span work.done).count outcome digest blocks (model_of j).pages x.0 p.memory) p.named.first_is
    (subst (λ (n : ℕ). DoesWork j.shelf work first n outcome digest blocks (model_of j).pages x.0 p.memory) p.named.count_is p.does) in
    not (x.0, p.memory) (work_ends j.lane command.cid j.shelf work outcome digest blocks (model_of j).pages x.0 p.memory does)

-- What a piece needs.

-- a part of a command's range has the data pages of its blocks
part_pages : (k shelf i blocks pages cid : ℕ) (work : Work) → IsPartOf shelf work.span (piece_of k shelf i (job_of cid work)).span → IsDoable blocks pages work → HasPages (piece_of k shelf i (job_of cid work)) pages
part_pages k shelf i blocks pages cid work part doable = λ moves n inside.
    let at = (piece_of k shelf i (job_of cid work)).span.first - work.span.first + n in
    doable.there moves at (omega (arith, part.starts, part.ends, inside))

-- what has to be done stays doable with a command more, and with another command in a place
abbrev IsDoableIn : ℕ → ℕ → Command → Type 0
IsDoableIn blocks pages command = IfSome command.work (IsDoable blocks pages)

pub doable_pushed : (blocks pages : ℕ) (commands : List Command) (command : Command) → AreDoable blocks pages commands → IsDoableIn blocks pages command → AreDoable blocks pages (commands ++ command ∷ [])
doable_pushed blocks pages commands command each last = λ i d low. ⊎_elim
    (λ (before : i < length commands). subst (IsDoableIn blocks pages) (sym (get_or_append_left commands (command ∷ []) d i before)) (each i d before))
    (λ (past : length commands ≤ i). subst (IsDoableIn blocks pages) (sym (get_or_push commands command d i (omega (arith, past, low, length_push commands command)))) last)
    (cases_lt i (length commands))

pub doable_set : (blocks pages : ℕ) (commands : List Command) (place : ℕ) (command : Command) → place < length commands → AreDoable blocks pages commands → IsDoableIn blocks pages command → AreDoable blocks pages (set commands place command)
doable_set blocks pages commands place command there each last = λ i d low. ⊎_elim
    (λ (e : i ≡ place). subst (IsDoableIn blocks pages) (sym (ap (λ (n : ℕ). get_or (set commands place command) n d) e ∙ get_or-set_same commands place command d there)) last)
    (λ (other : i ≡ place → ⊥). subst (IsDoableIn blocks pages) (sym (get_or-set_other commands place i command d other)) (each i d (omega (arith, low, length-set commands place command))))
    (cases_eq i place)

-- a command that passed its checks can be done
pub doable_checked : (blocks pages cid : ℕ) (w : WindowState) (checked : Checked) → length w.pages ≡ pages + 2 → IsRunnable blocks w checked → IsDoableIn blocks pages (command_of cid checked)
doable_checked blocks pages cid w (Refused status) count run = tt
doable_checked blocks pages cid w (Run job) count run = record {
  op = run.op;
  some = run.some;
  few = run.few;
  within = run.within;
  there = λ moves i low.
      let p = run.there moves in
      let page : i / 8 < job.pages.used = omega (arith, p.used, low) in
      (page, omega (arith, run.few, low), omega (arith, p.there (i / 8) page, length-drop 2 w.pages, count));
}

-- the lane after a piece
pub worked_lane : (j : JudgedLane) (pages : List (List ℕ)) (place : ℕ) (command : Command) → record (model_of j) {
  pages = pages;
  fetched = length (set j.commands.items (length j.posted.items + place) command);
  running = drop (length j.posted.items) (set j.commands.items (length j.posted.items + place) command);
} ≡ record (model_of j) { pages = pages; running = set (model_of j).running place command }
worked_lane j pages place command =
    let p = length j.posted.items in
    ap (λ (n : ℕ). record (model_of j) { pages = pages; fetched = n; running = drop p (set j.commands.items (p + place) command) }) (length-set j.commands.items (p + place) command)
    ∙ ap (λ (cs : List Command). record (model_of j) { pages = pages; running = cs }) (drop-set-add p j.commands.items place command)

-- the identifiers stay where a command is replaced by one of its own
pub same_cids : (j : JudgedLane) (place : ℕ) (command after : Command) → command ≡ get_or (model_of j).running place command → after.cid ≡ command.cid → identifiers (set j.commands.items (length j.posted.items + place) after) ≡ identifiers j.commands.items
same_cids j place command after is cid =
    let p = length j.posted.items in
    let own : command ≡ get_or j.commands.items (p + place) command = is ∙ get_or-drop p j.commands.items place command in
    map-set_same (λ (c : Command). c.cid) j.commands.items (p + place) after command (cid ∙ ap (λ (c : Command). c.cid) own)

pub doable_after : (blocks pages : ℕ) (command : Command) (work : Work) (outcome : Outcome) → IsDoable blocks pages work → IsDoableIn blocks pages (after_piece command work outcome)
doable_after blocks pages command work outcome d = record { op = d.op; some = d.some; few = d.few; within = d.within; there = d.there }

-- a command's next piece is one for the namespace
pub next_fits : (j : JudgedLane) (command : Command) (work : Work) → IsSound j → IsDoable j.blocks j.set.pages work → IsPartOf j.shelf work.span (piece_of j.lane j.shelf work.done (job_of command.cid work)).span →
    IsForShelf 0 j.blocks (length (data_pages j.window)) (piece_of j.lane j.shelf work.done (job_of command.cid work))
next_fits j command work sound d part =
    let pages : length (data_pages j.window) ≡ j.set.pages = omega (arith, length-drop 2 j.window.pages, sound.set_up.pages_are) in
    record {
      op = d.op;
      some = part.some;
      few = omega (arith, part.starts, part.ends, d.few);
      within = (omega arith, omega (arith, part.ends, d.within));
      has_pages = subst (HasPages (piece_of j.lane j.shelf work.done (job_of command.cid work))) (sym pages) (part_pages j.lane j.shelf work.done j.blocks j.set.pages command.cid work part d);
    }
