use Rattle.std.specs.Prelude.{◌≡◌, ◌⊎◌, ℕ, Bool, true, false, List, Option, Some, None, Result, Ok, Err}
use Rattle.mig_base.specs.Count.{RisesIf}
use Rattle.nvm_model.specs.declared.script.Script.{Script}
use Rattle.nvm_model.specs.ScriptText.{IsScript}
use Rattle.mig_base.specs.Stream.{IsCut, with_more}
use Rattle.guest_ram.specs.declared.host.Host.{Host}
use Rattle.script.specs.BadLine.{IsBadLine}
use Rattle.script.specs.declared.refusal.Why.{Why}
use Rattle.show.specs.ShowText.{show_text}
use Rattle.engine.specs.declared.status.Status.{Status}
use Rattle.engine.specs.declared.status.Status.TheVariants.{Done, Usage, BadScript, TooLong, OutOfMemory, HostSize, ReadFault, WriteFault, GaveUp, Refused}
use Rattle.engine.specs.Built.{Spells, SpellsOne, SpellsNone, TellsBadLine, TellsUnbuilt, IsTooLong}
use Rattle.engine.specs.Sizes.{Differ}
use Rattle.engine.specs.Words.{IsForm, IsNoForm}

-- What each answer claims.

-- why no script was read, of an input whose bytes may be told
abbrev pub IsReadRefusal : Option (List ℕ) → Status → Type 0
IsReadRefusal told (BadScript line why) = TellsBadLine told line why
IsReadRefusal told TooLong = IsTooLong told
IsReadRefusal told ReadFault = Unit {0}
IsReadRefusal told OutOfMemory = Unit {0}
IsReadRefusal told Done = ⊥
IsReadRefusal told GaveUp = ⊥
IsReadRefusal told (Refused line why) = ⊥
IsReadRefusal told Usage = ⊥
IsReadRefusal told (HostSize kept asked) = ⊥
IsReadRefusal told WriteFault = ⊥

-- why a text gives no script
abbrev pub IsNoScript : List ℕ → Status → Type 0
IsNoScript text (BadScript line why) = IsBadLine text (record { line = line; why = why })
IsNoScript text OutOfMemory = Unit {0}
IsNoScript text TooLong = ⊥
IsNoScript text ReadFault = ⊥
IsNoScript text Done = ⊥
IsNoScript text GaveUp = ⊥
IsNoScript text (Refused line why) = ⊥
IsNoScript text Usage = ⊥
IsNoScript text (HostSize kept asked) = ⊥
IsNoScript text WriteFault = ⊥

-- of a call that came to its end
abbrev pub OnEnded : Status → Type 0 → Type 0
OnEnded Done claim = claim
OnEnded GaveUp claim = claim
OnEnded (Refused line why) claim = Unit {0}
OnEnded Usage claim = Unit {0}
OnEnded (BadScript line why) claim = Unit {0}
OnEnded TooLong claim = Unit {0}
OnEnded OutOfMemory claim = Unit {0}
OnEnded (HostSize kept asked) claim = Unit {0}
OnEnded ReadFault claim = Unit {0}
OnEnded WriteFault claim = Unit {0}

-- of a call that stopped where the output failed
abbrev pub OnWriteFault : Status → Type 0 → Type 0
OnWriteFault WriteFault claim = claim
OnWriteFault Done claim = Unit {0}
OnWriteFault GaveUp claim = Unit {0}
OnWriteFault (Refused line why) claim = Unit {0}
OnWriteFault Usage claim = Unit {0}
OnWriteFault (BadScript line why) claim = Unit {0}
OnWriteFault TooLong claim = Unit {0}
OnWriteFault OutOfMemory claim = Unit {0}
OnWriteFault (HostSize kept asked) claim = Unit {0}
OnWriteFault ReadFault claim = Unit {0}

-- the answer of a call that gave its migration up
abbrev pub is_gave_up : Status → Bool
is_gave_up GaveUp = true
is_gave_up _ = false

-- the answer of a call whose output failed
abbrev pub is_write_fault : Status → Bool
is_write_fault WriteFault = true
is_write_fault _ = false

-- of a call that began a run
abbrev pub OnRun : Status → Type 0 → Type 0
OnRun Done claim = claim
OnRun GaveUp claim = claim
OnRun WriteFault claim = claim
OnRun Usage claim = Unit {0}
OnRun (BadScript line why) claim = Unit {0}
OnRun TooLong claim = Unit {0}
OnRun OutOfMemory claim = Unit {0}
OnRun (HostSize kept asked) claim = Unit {0}
OnRun ReadFault claim = Unit {0}
OnRun (Refused line why) claim = Unit {0}

-- `Usage` exactly where the words are no form
abbrev pub IsUsage : List (List ℕ) → Status → Type 0
IsUsage words Usage = IsNoForm words
IsUsage words Done = IsForm words
IsUsage words GaveUp = IsForm words
IsUsage words (Refused line why) = IsForm words
IsUsage words (BadScript line why) = IsForm words
IsUsage words TooLong = IsForm words
IsUsage words OutOfMemory = IsForm words
IsUsage words (HostSize kept asked) = IsForm words
IsUsage words ReadFault = IsForm words
IsUsage words WriteFault = IsForm words

-- `BadScript` where the whole input spells no script that is taken, and a run or a comparison of sizes where it spells
-- one; a run judges nothing
abbrev pub IsBadScript : Option (List ℕ) → Status → Type 0
IsBadScript told (BadScript line why) = SpellsNone told
IsBadScript told Done = SpellsOne told
IsBadScript told GaveUp = SpellsOne told
IsBadScript told (Refused line why) = ⊥
IsBadScript told (HostSize kept asked) = SpellsOne told
IsBadScript told WriteFault = SpellsOne told
IsBadScript told Usage = Unit {0}
IsBadScript told TooLong = Unit {0}
IsBadScript told OutOfMemory = Unit {0}
IsBadScript told ReadFault = Unit {0}

-- of an answer that the script is bad: the line that it tells, and the cause
abbrev pub OnBadScript : Status → (ℕ → Why → Type 0) → Type 0
OnBadScript (BadScript line why) P = P line why
OnBadScript Done P = Unit {0}
OnBadScript GaveUp P = Unit {0}
OnBadScript (Refused line why) P = Unit {0}
OnBadScript (HostSize kept asked) P = Unit {0}
OnBadScript WriteFault P = Unit {0}
OnBadScript Usage P = Unit {0}
OnBadScript TooLong P = Unit {0}
OnBadScript OutOfMemory P = Unit {0}
OnBadScript ReadFault P = Unit {0}

-- the line that is told of a script that was to be run: the first that isn't right, or the first that asks for what
-- isn't built
abbrev pub IsBadRun : Option (List ℕ) → Status → Type 0
IsBadRun told status = OnBadScript status (λ line why. TellsBadLine told line why ⊎ TellsUnbuilt told line why)

-- the input spelled a script, of which P holds
abbrev pub SpellsScript : Option (List ℕ) → (Script → Type 0) → Type 0
SpellsScript told P = (s : Script) × IsScript s × Spells told s × P s

-- what was written where a script was shown: its plan, or a front of it where the output failed
abbrev pub IsShown : Option (List ℕ) → Option (List ℕ) → Option (List ℕ) → Status → Type 0
IsShown told before after Done = SpellsScript told (λ s. after ≡ with_more (show_text s) before)
IsShown told before after WriteFault = SpellsScript told (λ s. IsCut (show_text s) before after)
IsShown told before after (BadScript line why) = TellsBadLine told line why
IsShown told before after Usage = ⊥
IsShown told before after GaveUp = ⊥
IsShown told before after (Refused line why) = ⊥
IsShown told before after (HostSize kept asked) = ⊥
IsShown told before after TooLong = Unit {0}
IsShown told before after OutOfMemory = Unit {0}
IsShown told before after ReadFault = Unit {0}

-- `TooLong` only for an input that is too long
abbrev pub IsLong : Option (List ℕ) → Status → Type 0
IsLong told TooLong = IsTooLong told
IsLong told Done = Unit {0}
IsLong told GaveUp = Unit {0}
IsLong told (Refused line why) = Unit {0}
IsLong told Usage = Unit {0}
IsLong told (BadScript line why) = Unit {0}
IsLong told OutOfMemory = Unit {0}
IsLong told (HostSize kept asked) = Unit {0}
IsLong told ReadFault = Unit {0}
IsLong told WriteFault = Unit {0}

-- `HostSize` with the first size of either host that differs from the script's, and a run where none does
abbrev pub IsHostSize : Option (List ℕ) → List ℕ → List ℕ → Status → Type 0
IsHostSize told from to (HostSize kept asked) = Differ told from to (Some (kept, asked))
IsHostSize told from to Done = Differ told from to None
IsHostSize told from to GaveUp = Differ told from to None
IsHostSize told from to (Refused line why) = Unit {0}
IsHostSize told from to WriteFault = Differ told from to None
IsHostSize told from to Usage = Unit {0}
IsHostSize told from to (BadScript line why) = Unit {0}
IsHostSize told from to TooLong = Unit {0}
IsHostSize told from to OutOfMemory = Unit {0}
IsHostSize told from to ReadFault = Unit {0}

-- whether the answer is that the input failed
abbrev pub is_read_fault : Status → Bool
is_read_fault ReadFault = true
is_read_fault _ = false

-- the input's count of faults rose where the answer is `ReadFault`, and is as it was after every other
abbrev pub IsReadFault : ℕ → ℕ → Status → Type 0
IsReadFault before now status = RisesIf (is_read_fault status) before now

-- the same of the output's count and `WriteFault`
abbrev pub IsWriteFault : ℕ → ℕ → Status → Type 0
IsWriteFault before now status = RisesIf (is_write_fault status) before now

-- the same of the input's count and a call that may answer with a status
abbrev pub HasReadCause : {T : Type 0} → ℕ → ℕ → Result T Status → Type 0
HasReadCause before now (Ok t) = now ≡ before
HasReadCause before now (Err status) = IsReadFault before now status

-- of an answer that comes before the first line of a run, or before what is shown or said
abbrev pub OnRefused : Status → Type 0 → Type 0
OnRefused Done claim = Unit {0}
OnRefused GaveUp claim = Unit {0}
OnRefused (Refused line why) claim = Unit {0}
OnRefused WriteFault claim = Unit {0}
OnRefused Usage claim = claim
OnRefused (BadScript line why) claim = claim
OnRefused TooLong claim = claim
OnRefused OutOfMemory claim = claim
OnRefused (HostSize kept asked) claim = claim
OnRefused ReadFault claim = claim

-- a host's media and its memory are as they were
abbrev pub IsAsBefore : {M : Type 0} → Host M → Host M → Type 0
IsAsBefore old new = (new.shelves.items ≡ old.shelves.items) × (new.ram ≡ old.ram)

-- the answer is none of those that come after a run
abbrev pub IsBeforeRun : Status → Type 0
IsBeforeRun Done = ⊥
IsBeforeRun GaveUp = ⊥
IsBeforeRun (Refused line why) = ⊥
IsBeforeRun WriteFault = ⊥
IsBeforeRun Usage = ⊥
IsBeforeRun (BadScript line why) = Unit {0}
IsBeforeRun TooLong = Unit {0}
IsBeforeRun OutOfMemory = Unit {0}
IsBeforeRun (HostSize kept asked) = Unit {0}
IsBeforeRun ReadFault = Unit {0}

-- why nothing was run, where the words ask for a run
pub record IsRefusal (told : Option (List ℕ)) (from to : List ℕ) (status : Status) : Type 0 where
  pub bad_script : IsBadScript told status
  pub bad_line : IsBadRun told status
  pub too_long : IsLong told status
  pub host_size : IsHostSize told from to status
  pub not_run : IsBeforeRun status
