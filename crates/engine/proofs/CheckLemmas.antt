use Rattle.std.proofs.Common.{◌≡◌, List, ℕ, Option, Some, None, IfSome, subst, ap, ◌∙◌}
use Rattle.judge.specs.declared.verdict.Verdict.{Verdict}
use Rattle.mig_base.specs.Stream.{with_more}
use Rattle.engine.specs.declared.status.Status.{Status}
use Rattle.engine.specs.declared.status.Status.TheVariants.{Done, Usage, BadScript, TooLong, OutOfMemory, HostSize, ReadFault, WriteFault, GaveUp, Refused}
use Rattle.engine.specs.Checked.{HasVerdict, IsChecked, IsTold, verdict_text}

-- What is said of an input, by what was said of its text and what was written.

-- what is true of the text that was read is true of the input, where it is told
pub told_verdict : (told : Option (List ℕ)) (text : List ℕ) (v : Verdict) → IfSome told (λ (left : List ℕ). text ≡ left) → HasVerdict (Some text) v → HasVerdict told v
told_verdict None text v is has = record { script = has.script; is_script = has.is_script; transcript = has.transcript; input = tt; said = has.said }
told_verdict (Some left) text v is has = subst (λ (t : List ℕ). HasVerdict (Some t) v) is has

pub told_checked : (told before after : Option (List ℕ)) (v : Verdict) (status : Status) → HasVerdict told v → IsTold v before after status → IsChecked told before after status
told_checked told before after v Done has is = (subst (HasVerdict told) is.0 has, is.1 ∙ ap (λ (u : Verdict). with_more (verdict_text u) before) is.0)
told_checked told before after v (Refused line why) has is = (subst (HasVerdict told) is.0 has, is.1 ∙ ap (λ (u : Verdict). with_more (verdict_text u) before) is.0)
told_checked told before after v WriteFault has is = (v, has, is)
told_checked told before after v (BadScript line why) has is = absurd is
told_checked told before after v TooLong has is = absurd is
told_checked told before after v OutOfMemory has is = absurd is
told_checked told before after v ReadFault has is = absurd is
told_checked told before after v Usage has is = absurd is
told_checked told before after v GaveUp has is = absurd is
told_checked told before after v (HostSize kept asked) has is = absurd is
