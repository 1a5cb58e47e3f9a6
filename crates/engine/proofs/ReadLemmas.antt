use Rattle.std.proofs.Common.{◌≡◌, ◌⊎◌, ℕ, List, Option, Some, None, Result, Ok, Err, inl, inr, refl, subst, sym}
use Rattle.nvm_model.specs.declared.script.Script.{Script}
use Rattle.script.specs.declared.refusal.ParseRefusal.{ParseRefusal}
use Rattle.script.specs.declared.refusal.ParseRefusal.TheVariants.{OutOfMemory}
use Rattle.script.specs.declared.refusal.Why.{Why}
use Rattle.script.proofs.OneBadLine.{no_bad_line}
use Rattle.script.specs.declared.refusal.Why.TheVariants.{Range}
use Rattle.nvm_model.specs.ScriptText.{IsScript}
use Rattle.engine.specs.declared.status.Status.{Status}
use Rattle.engine.specs.declared.status.Status.TheVariants.{Done, Usage, BadScript, TooLong, OutOfMemory as NoMemory, HostSize, ReadFault, WriteFault, GaveUp, Refused}
use Rattle.engine.specs.Claims.{IsReadRefusal, IsRefusal}
use Rattle.engine.specs.Built.{IsBuilt, IsUnbuilt, Spells, SpellsNone, SpellsOnly, TellsBadLine}

-- a script that was read is the one that the text spells
pub read_is : (read s : Script) → (◌≡◌ {A = Result Script ParseRefusal} (Ok read) (Ok s)) ⊎ (◌≡◌ {A = Result Script ParseRefusal} (Ok read) (Err OutOfMemory)) → read ≡ s
read_is read s (inl e) = cc
read_is read s (inr e) = cc

-- a text with a bad line spells no script
pub bad_spells_none : (told : Option (List ℕ)) (line : ℕ) (why : Why) → TellsBadLine told line why → SpellsNone told
bad_spells_none None line why bad = tt
bad_spells_none (Some text) line why bad = (bad.0, λ s taken spelled. no_bad_line text s (record { line = line; why = why }) taken.script spelled bad.1)

-- a text that spells a script with such a head spells none that is taken
pub unbuilt_spells_none : (told : Option (List ℕ)) (s : Script) (line : ℕ) → Spells told s → SpellsOnly told s → IsUnbuilt s.head line → SpellsNone told
unbuilt_spells_none None s line spelled only unbuilt = tt
unbuilt_spells_none (Some text) s line spelled only unbuilt =
    (spelled.1, λ other taken is. unbuilt.moves (subst (λ (x : Script). IsBuilt x.head) (sym (only other taken.script is)) taken.built).moves)

-- why no script was read, as why nothing was run
pub not_read : (told : Option (List ℕ)) (from to : List ℕ) (status : Status) → IsReadRefusal told status → IsRefusal told from to status
not_read told from to (BadScript line why) is = record { bad_script = bad_spells_none told line why is; bad_line = inl is; too_long = tt; host_size = tt; not_run = tt }
not_read told from to TooLong is = record { bad_script = tt; bad_line = tt; too_long = is; host_size = tt; not_run = tt }
not_read told from to ReadFault is = record { bad_script = tt; bad_line = tt; too_long = tt; host_size = tt; not_run = tt }
not_read told from to NoMemory is = record { bad_script = tt; bad_line = tt; too_long = tt; host_size = tt; not_run = tt }
not_read told from to Done is = absurd is
not_read told from to GaveUp is = absurd is
not_read told from to (Refused line why) is = absurd is
not_read told from to Usage is = absurd is
not_read told from to (HostSize kept asked) is = absurd is
not_read told from to WriteFault is = absurd is

-- a script that isn't built, the same
pub not_built : (told : Option (List ℕ)) (from to : List ℕ) (s : Script) (line : ℕ) → IsScript s → Spells told s → SpellsOnly told s → IsUnbuilt s.head line → IsRefusal told from to (BadScript line Range)
not_built told from to s line is spelled only unbuilt = record { bad_script = unbuilt_spells_none told s line spelled only unbuilt; bad_line = inr (refl, s, is, spelled, unbuilt); too_long = tt; host_size = tt; not_run = tt }
