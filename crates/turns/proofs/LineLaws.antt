use Rattle.std.proofs.Common.{◌≡◌, ◌||◌, Bool, false, cond, List, [], ◌∷◌, ◌++◌, Option, Some, None, refl, sym, ap, ◌∙◌, append-nil}
use Rattle.std.specs.Prelude.{IsTrue}
use Rattle.std.specs.Option.{option_map}
use Rattle.std.proofs.lemmas.Bool.{false≢true}
use Rattle.std.proofs.lemmas.List.Elements.{filter-append}
use Rattle.nvm_model.specs.declared.line.Line.{Line}
use Rattle.nvm_model.specs.declared.line.Line.TheVariants as line
use Rattle.nvm_model.specs.History.{AreEvents, events_of, has_given_up, is_event, is_give_up, lines_before_resume}
use Rattle.turns.proofs.FrameLemmas.{no_first}

-- Events among lines, and the lines that tell how a migration ended.

pub all_events : (es : List Line) → AreEvents es → events_of es ≡ es
all_events [] h = refl
all_events (e ∷ es) h = ap (λ (b : Bool). cond b (e ∷ events_of es) (events_of es)) h.0 ∙ ap (λ (others : List Line). e ∷ others) (all_events es h.1)

pub events_more : (a b : List Line) → events_of (a ++ b) ≡ events_of a ++ events_of b
events_more a b = filter-append is_event a b

pub events_front : (a b : List Line) → AreEvents (a ++ b) → AreEvents a × AreEvents b
events_front [] b are = (tt, are)
events_front (e ∷ a) b are = let others = events_front a b are.1 in ((are.0, others.0), others.1)

-- where lines have no event, no front of them has one
pub no_events_front : (a b : List Line) → events_of (a ++ b) ≡ [] → events_of a ≡ []
no_events_front a b none = no_first (events_of a) (events_of b) (sym (events_more a b) ∙ none)

-- an event is neither `resume to` nor `give up`
event_passes : (e : Line) → IsTrue (is_event e) → (lines : List Line) → (lines_before_resume (e ∷ lines) ≡ option_map (λ (before : List Line). e ∷ before) (lines_before_resume lines)) × (is_give_up e ≡ false)
event_passes (line.Act k n) h lines = (refl, refl)
event_passes (line.Reap k cid status head phase) h lines = (refl, refl)
event_passes (line.Fetch k cid status pieces) h lines = (refl, refl)
event_passes (line.Piece k cid first count outcome digest) h lines = (refl, refl)
event_passes (line.Post k cid status) h lines = (refl, refl)
event_passes line.Title h lines = absurd (false≢true h)
event_passes line.Ready h lines = absurd (false≢true h)
event_passes line.Migrate h lines = absurd (false≢true h)
event_passes line.Restart h lines = absurd (false≢true h)
event_passes (line.Round owed pages) h lines = absurd (false≢true h)
event_passes line.Suspend h lines = absurd (false≢true h)
event_passes (line.Pause owed pages) h lines = absurd (false≢true h)
event_passes line.ResumeTo h lines = absurd (false≢true h)
event_passes line.GiveUp h lines = absurd (false≢true h)
event_passes line.End h lines = absurd (false≢true h)

same_option : (o : Option (List Line)) → o ≡ option_map (λ (before : List Line). before) o
same_option None = refl
same_option (Some before) = refl

-- where events come first
pub resume_later : (es others : List Line) → AreEvents es → lines_before_resume (es ++ others) ≡ option_map (λ (before : List Line). es ++ before) (lines_before_resume others)
resume_later [] others h = same_option (lines_before_resume others)
resume_later (e ∷ es) others h =
    (event_passes e h.0 (es ++ others)).0 ∙ ap (option_map (λ (before : List Line). e ∷ before)) (resume_later es others h.1) ∙ twice (lines_before_resume others)
  where
    twice : (o : Option (List Line)) → option_map (λ (before : List Line). e ∷ before) (option_map (λ (before : List Line). es ++ before) o) ≡ option_map (λ (before : List Line). e ∷ (es ++ before)) o
    twice None = refl
    twice (Some before) = refl

pub none_given_up : (es others : List Line) → AreEvents es → has_given_up (es ++ others) ≡ has_given_up others
none_given_up [] others h = refl
none_given_up (e ∷ es) others h = ap (λ (b : Bool). b || has_given_up (es ++ others)) (event_passes e h.0 others).1 ∙ none_given_up es others h.1

-- it stands neither among events nor among the lines behind them
pub none_resumed : (es others : List Line) → AreEvents es → lines_before_resume others ≡ None → lines_before_resume (es ++ others) ≡ None
none_resumed es others are none = resume_later es others are ∙ ap (option_map (λ (before : List Line). es ++ before)) none

pub events_unresumed : (es : List Line) → AreEvents es → lines_before_resume es ≡ None
events_unresumed es are = ap lines_before_resume (sym (append-nil es)) ∙ none_resumed es [] are refl

-- what has a line before it is there
kept : (l : Line) (o p : Option (List Line)) → (p ≡ None → o ≡ None) → option_map (λ (before : List Line). l ∷ before) p ≡ None → option_map (λ (before : List Line). l ∷ before) o ≡ None
kept l o None others none = ap (option_map (λ (before : List Line). l ∷ before)) (others refl)
kept l o (Some before) others none = cc

-- a line before others
unresumed_more : (l : Line) (a b : List Line) → (lines_before_resume b ≡ None → lines_before_resume a ≡ None) → lines_before_resume (l ∷ b) ≡ None → lines_before_resume (l ∷ a) ≡ None
unresumed_more line.ResumeTo a b others none = cc
unresumed_more line.Title a b others none = kept line.Title (lines_before_resume a) (lines_before_resume b) others none
unresumed_more line.Ready a b others none = kept line.Ready (lines_before_resume a) (lines_before_resume b) others none
unresumed_more (line.Act k n) a b others none = kept (line.Act k n) (lines_before_resume a) (lines_before_resume b) others none
unresumed_more (line.Reap k cid status head phase) a b others none = kept (line.Reap k cid status head phase) (lines_before_resume a) (lines_before_resume b) others none
unresumed_more (line.Fetch k cid status pieces) a b others none = kept (line.Fetch k cid status pieces) (lines_before_resume a) (lines_before_resume b) others none
unresumed_more (line.Piece k cid first count outcome digest) a b others none = kept (line.Piece k cid first count outcome digest) (lines_before_resume a) (lines_before_resume b) others none
unresumed_more (line.Post k cid status) a b others none = kept (line.Post k cid status) (lines_before_resume a) (lines_before_resume b) others none
unresumed_more line.Migrate a b others none = kept line.Migrate (lines_before_resume a) (lines_before_resume b) others none
unresumed_more line.Restart a b others none = kept line.Restart (lines_before_resume a) (lines_before_resume b) others none
unresumed_more (line.Round owed pages) a b others none = kept (line.Round owed pages) (lines_before_resume a) (lines_before_resume b) others none
unresumed_more line.Suspend a b others none = kept line.Suspend (lines_before_resume a) (lines_before_resume b) others none
unresumed_more (line.Pause owed pages) a b others none = kept (line.Pause owed pages) (lines_before_resume a) (lines_before_resume b) others none
unresumed_more line.GiveUp a b others none = kept line.GiveUp (lines_before_resume a) (lines_before_resume b) others none
unresumed_more line.End a b others none = kept line.End (lines_before_resume a) (lines_before_resume b) others none

-- where it doesn't stand among lines, nor does it among a front of them
pub front_unresumed : (a b : List Line) → lines_before_resume (a ++ b) ≡ None → lines_before_resume a ≡ None
front_unresumed [] b none = refl
front_unresumed (l ∷ a) b none = unresumed_more l a (a ++ b) (front_unresumed a b) none
