use Rattle.std.specs.Prelude.{◌≡◌, ℕ, ◌+◌, ◌*◌, ◌<◌, ◌≤◌, Bool, true, false, cond, List, [], ◌∷◌, ◌++◌, Option, Some, None, Result, Ok, Err, All, IfSome, length, map, slice_index_or, slice_set}
use Rattle.std.specs.List.{range_with_len}
use Rattle.mig_base.specs.Count.{RisesBy}
use Rattle.nvm_model.specs.declared.trace.Call.{Call}
use Rattle.nvm_model.specs.declared.trace.Step.{Step}
use Rattle.nvm_model.specs.declared.trace.Step.TheVariants.{Get, Put, Mark}

-- A medium: the numbered blocks under a shelf of the namespace. Its calls are seen with their bytes.

-- what contracts see of a medium: its blocks and its steps as far as it tells them, how many calls failed, how many
-- blocks it has, and a meaning of its own
pub record MediumState (I : Type 0) : Type 0 where
  pub blocks : Option (List (List ℕ))
  pub trace : Option (List Step)
  pub faults : ℕ
  pub size : ℕ
  pub inside : I

-- A call (`Call`): a get that failed has no bytes, nor has a mark.

-- a get of block b by its answer
abbrev pub got : {T E : Type 0} → ℕ → List ℕ → Result T E → Call
got b bytes (Ok _) = record { step = Get b; bytes = bytes; failed = false }
got b bytes (Err _) = record { step = Get b; bytes = []; failed = true }

-- a put of block b
abbrev pub sent : ℕ → List ℕ → Bool → Call
sent b bytes failed = record { step = Put b; bytes = bytes; failed = failed }

-- a mark
abbrev pub marked : ℕ → Call
marked n = record { step = Mark n; bytes = []; failed = false }

-- What a call does to blocks.

-- its block is one of so many; a mark has none
abbrev pub IsIn : ℕ → Step → Type 0
IsIn count (Get b) = b < count
IsIn count (Put b) = b < count
IsIn count (Mark n) = Unit {0}

-- a put that didn't fail changes its block, and nothing else changes one
abbrev pub blocks_with : Step → Bool → List ℕ → List (List ℕ) → List (List ℕ)
blocks_with (Put b) false bytes blocks = slice_set blocks b bytes
blocks_with (Put b) true bytes blocks = blocks
blocks_with (Get b) failed bytes blocks = blocks
blocks_with (Mark n) failed bytes blocks = blocks

-- a get that didn't fail gives the block that is there
abbrev pub Gives : Step → Bool → List (List ℕ) → List ℕ → Type 0
Gives (Get b) false blocks bytes = bytes ≡ slice_index_or blocks b []
Gives (Get b) true blocks bytes = Unit {0}
Gives (Put b) failed blocks bytes = Unit {0}
Gives (Mark n) failed blocks bytes = Unit {0}

-- what one call does to blocks that are told
pub record Effect (old : List (List ℕ)) (c : Call) (new : List (List ℕ)) : Type 0 where
  pub there : IsIn (length old) c.step
  pub new_is : new ≡ blocks_with c.step c.failed c.bytes old
  pub gives : Gives c.step c.failed old c.bytes

-- Whether blocks are told never changes, and where they are they go on by this relation.
abbrev pub StayTold : {B : Type 0} → (B → B → Type 0) → Option B → Option B → Type 0
StayTold R (Some old) (Some new) = R old new
StayTold R None None = Unit {0}
StayTold R (Some old) None = ⊥
StayTold R None (Some new) = ⊥

-- The step was added to the trace, where that is told. A trace may stop being told, and is then never told again.
abbrev pub Traces : Option (List Step) → Step → Option (List Step) → Type 0
Traces (Some old) step (Some new) = new ≡ old ++ step ∷ []
Traces (Some old) step None = Unit {0}
Traces None step None = Unit {0}
Traces None step (Some new) = ⊥

-- a mark can't fail, and no count rises with it
abbrev pub Uncounted : Step → ℕ → ℕ → Type 0
Uncounted (Mark n) before now = now ≡ before
Uncounted (Get b) before now = Unit {0}
Uncounted (Put b) before now = Unit {0}

-- one call of a medium, whose own meaning goes on by its relation
pub record IsCall {I : Type 0} (moves : I → Step → Bool → I → Type 0) (old : MediumState I) (c : Call) (new : MediumState I) : Type 0 where
  pub size : new.size ≡ old.size
  pub blocks : StayTold (λ bs cs. Effect bs c cs) old.blocks new.blocks
  pub traced : Traces old.trace c.step new.trace
  pub moved : moves old.inside c.step c.failed new.inside
  pub later : old.faults ≤ new.faults
  pub rose : RisesBy (cond c.failed 1 0) old.faults new.faults
  pub uncounted : Uncounted c.step old.faults new.faults

-- the same of a medium as code has it
abbrev pub IsMade : {M I : Type 0} → (M → MediumState I) → (I → Step → Bool → I → Type 0) → M → Call → M → Type 0
IsMade state moves old c new = IsCall moves (state old) c (state new)

-- Several media in their order.

-- a call of the medium at this place
pub record At : Type 0 where
  pub shelf : ℕ
  pub call : Call

-- calls that are all of the medium at place i
abbrev pub all_at : ℕ → List Call → List At
all_at i calls = map (λ (c : Call). record { shelf = i; call = c }) calls

-- a mark as calls of so many media, one of each
abbrev pub marks_at : ℕ → ℕ → List At
marks_at count n = map (λ (i : ℕ). record { shelf = i; call = marked n }) (range_with_len 0 count)

-- in their order, what each tells of its blocks, how many calls of each failed, and how many blocks each has
abbrev pub told_in : {M I : Type 0} → (M → MediumState I) → List M → List (Option (List (List ℕ)))
told_in {M} state media = map (λ (m : M). (state m).blocks) media

-- in their order, how many calls of each failed
abbrev pub faults_in : {M I : Type 0} → (M → MediumState I) → List M → List ℕ
faults_in {M} state media = map (λ (m : M). (state m).faults) media

-- in their order, how many blocks each has
abbrev pub sizes_in : {M I : Type 0} → (M → MediumState I) → List M → List ℕ
sizes_in {M} state media = map (λ (m : M). (state m).size) media

-- that medium got the call, and the others are as they were
pub record IsAt {M I : Type 0} (state : M → MediumState I) (moves : I → Step → Bool → I → Type 0) (old : List M) (a : At) (new : List M) : Type 0 where
  pub there : a.shelf < length old
  pub call : (d : M) → IsMade state moves (slice_index_or old a.shelf d) a.call (slice_index_or new a.shelf d)
  pub others : (d : M) → new ≡ slice_set old a.shelf (slice_index_or new a.shelf d)

-- how many calls failed
abbrev pub failures_in : List Call → ℕ
failures_in [] = 0
failures_in (c ∷ calls) = cond c.failed 1 0 + failures_in calls

-- a medium of so many blocks, which are as many where they are told
pub record HasSize {I : Type 0} (size : ℕ) (m : MediumState I) : Type 0 where
  pub size_is : m.size ≡ size
  pub told : IfSome m.blocks (λ (blocks : List (List ℕ)). length blocks ≡ size)

-- so do all of these
abbrev pub HaveSize : {M I : Type 0} → (M → MediumState I) → ℕ → List M → Type 0
HaveSize {M} state size media = All (λ (m : M). HasSize size (state m)) media

-- The call as one of the blocks of all media together, each of so many.
abbrev pub flat_step : ℕ → ℕ → Step → Step
flat_step size i (Get b) = Get (i * size + b)
flat_step size i (Put b) = Put (i * size + b)
flat_step size i (Mark n) = Mark n

-- the same of a whole call
abbrev pub flat_call : ℕ → At → Call
flat_call size a = record a.call { step = flat_step size a.shelf a.call.step }
