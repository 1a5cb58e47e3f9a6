use Rattle.std.proofs.Common.{◌≡◌, ◌⊎◌, inl, inr, ⊎_elim, ℕ, zero, suc, ◌+◌, ◌-◌, ◌<◌, ◌≤◌, Bool, true, false, List, [], ◌∷◌, ◌++◌, Result, Ok, Err, ap, ◌∙◌, arith, drop, length, refl, replicate, slice_index_or, slice_set, subst, sym, take}
use Rattle.std.proofs.lemmas.Bool.{cases_eq, cases_lt}
use Rattle.std.proofs.lemmas.Grind.{get_or-set_at}
use Rattle.std.proofs.lemmas.List.{get_or-replicate, get_or-set_other, length-replicate, length-set}
use Rattle.mig_base.specs.declared.span.Span.{Span}
use Rattle.move_core.specs.declared.event.CoreEvent.{CoreEvent}
use Rattle.move_core.specs.declared.event.CoreEvent.TheVariants.{Piece, Post, Copy, Take, Restart, Suspend, Resume, GiveUp}
use Rattle.move_core.specs.declared.phase.CorePhase.{CorePhase}
use Rattle.move_core.specs.declared.phase.CorePhase.TheVariants.{Moving, Suspended, Resumed, GaveUp}
use Rattle.move_core.specs.State.{CoreState, May, NoneUnposted, Steps, after, block_at, is_lost, is_owed, owe_blocks, owe_oldest, put_blocks, spans_of, start_core, written}
use Rattle.move_core.specs.Covered.{CoveredIn, InLane, InSome, IsCalm, IsCoreCovered, IsCovered, IsIn, IsShaped, KeepsSides}
use Rattle.move_core.specs.Does.{Does, Goes}

-- What differs is owed, after each step.

-- Lists that are written at a span.

length_put : (first n : ℕ) (bytes : List ℕ) (blocks : List (List ℕ)) → length (put_blocks first n bytes blocks) ≡ length blocks
length_put first zero bytes blocks = refl
length_put first (suc n) bytes blocks = length-set (put_blocks first n bytes blocks) (first + n) _ ∙ length_put first n bytes blocks

length_owe : (first n : ℕ) (owed : List Bool) → length (owe_blocks first n owed) ≡ length owed
length_owe first zero owed = refl
length_owe first (suc n) owed = length-set (owe_blocks first n owed) (first + n) true ∙ length_owe first n owed

-- a block that isn't written stays
put_other : (first n b : ℕ) (bytes : List ℕ) (blocks : List (List ℕ)) → (first ≤ b → b < first + n → ⊥) → block_at (put_blocks first n bytes blocks) b ≡ block_at blocks b
put_other first zero b bytes blocks out = refl
put_other first (suc n) b bytes blocks out =
    get_or-set_other (put_blocks first n bytes blocks) (first + n) b _ [] (λ e. out (omega (arith, e)) (omega (arith, e)))
    ∙ put_other first n b bytes blocks (λ low high. out low (omega (arith, high)))

-- what was owed is
still_owed : (first n b : ℕ) (owed : List Bool) → b < length owed → slice_index_or owed b false ≡ true → slice_index_or (owe_blocks first n owed) b false ≡ true
still_owed first zero b owed there here = here
still_owed first (suc n) b owed there here =
    let long = length_owe first n owed in
    ⊎_elim (λ same. get_or-set_at (owe_blocks first n owed) (first + n) b true false same (omega (arith, long, there, same)))
    (λ other. get_or-set_other (owe_blocks first n owed) (first + n) b true false other ∙ still_owed first n b owed there here) (cases_eq b (first + n))

-- and so is what lies in the span
now_owed : (first n b : ℕ) (owed : List Bool) → b < length owed → first ≤ b → b < first + n → slice_index_or (owe_blocks first n owed) b false ≡ true
now_owed first zero b owed there low high = absurd (omega (arith, low, high))
now_owed first (suc n) b owed there low high =
    let long = length_owe first n owed in
    ⊎_elim (λ same. get_or-set_at (owe_blocks first n owed) (first + n) b true false same (omega (arith, long, there, same)))
    (λ other. get_or-set_other (owe_blocks first n owed) (first + n) b true false other ∙ now_owed first n b owed there low (omega (arith, high, other))) (cases_eq b (first + n))

-- the oldest span of a log is taken
still_taken : (log : List Span) (b : ℕ) (owed : List Bool) → b < length owed → slice_index_or owed b false ≡ true → slice_index_or (owe_oldest log owed) b false ≡ true
still_taken [] b owed there here = here
still_taken (span ∷ spans) b owed there here = still_owed span.first span.count b owed there here

now_taken : (log : List Span) (b : ℕ) (owed : List Bool) → b < length owed → InSome b log → (slice_index_or (owe_oldest log owed) b false ≡ true) ⊎ InSome b (drop 1 log)
now_taken [] b owed there here = absurd here
now_taken (span ∷ spans) b owed there here = ⊎_elim (λ within. inl (now_owed span.first span.count b owed there within.0 within.1)) (λ more. inr more) here

-- Spans.

some_more : (b : ℕ) (xs ys : List Span) → InSome b xs → InSome b (xs ++ ys)
some_more b [] ys here = absurd here
some_more b (x ∷ xs) ys here = ⊎_elim (λ first. inl first) (λ more. inr (some_more b xs ys more)) here

some_behind : (b : ℕ) (xs ys : List Span) → InSome b ys → InSome b (xs ++ ys)
some_behind b [] ys here = here
some_behind b (x ∷ xs) ys here = inr (some_behind b xs ys here)

some_cut : (b : ℕ) (xs : List Span) → InSome b xs → InSome b (take 1 xs) ⊎ InSome b (drop 1 xs)
some_cut b [] here = absurd here
some_cut b (x ∷ xs) here = ⊎_elim (λ first. inl (inl first)) (λ more. inr more) here

none_in : (b : ℕ) (xs : List Span) → xs ≡ [] → InSome b xs → ⊥
none_in b [] is here = here
none_in b (x ∷ xs) is here = cc

-- a lane's spans are replaced
lane_in : (b i : ℕ) (lanes : List (List Span)) (new : List Span) → i < length lanes → InSome b new → InLane b (slice_set lanes i new)
lane_in b i [] new there here = absurd (omega (arith, there))
lane_in b zero (lane ∷ lanes) new there here = inl here
lane_in b (suc i) (lane ∷ lanes) new there here = inr (lane_in b i lanes new (omega (arith, there)) here)

-- a block of the lanes lies in the spans of that one, or it still does
lane_or : (b i : ℕ) (lanes : List (List Span)) (new : List Span) → InLane b lanes → InSome b (slice_index_or lanes i []) ⊎ InLane b (slice_set lanes i new)
lane_or b i [] new here = absurd here
lane_or b zero (lane ∷ lanes) new here = ⊎_elim (λ first. inl first) (λ more. inr (inr more)) here
lane_or b (suc i) (lane ∷ lanes) new here = ⊎_elim (λ first. inr (inl first)) (λ more. ⊎_elim (λ there. inl there) (λ still. inr (inr still)) (lane_or b i lanes new more)) here

none_in_lanes : (b : ℕ) (lanes : List (List Span)) → NoneUnposted lanes → InLane b lanes → ⊥
none_in_lanes b [] none here = here
none_in_lanes b (lane ∷ lanes) none here = ⊎_elim (λ first. none_in b lane (none 0) first) (λ more. none_in_lanes b lanes (λ i. none (suc i)) more) here

-- One block after each event.

-- a covered block goes on to be covered: each way to be so
covers : (c d : CoreState) (b : ℕ) → (block_at c.source b ≡ block_at c.destination b → IsCovered d b) → (is_owed c b ≡ true → IsCovered d b) → (InSome b c.log → IsCovered d b) →
    (InLane b c.unposted → IsCovered d b) → (c.mark ≡ true → IsCovered d b) → IsCovered c b → IsCovered d b
covers c d b same owed log lane mark here = ⊎_elim same (λ o. ⊎_elim owed (λ l. ⊎_elim log (λ u. ⊎_elim lane mark u) l) o) here

write_covers : (c : CoreState) (lane : ℕ) (span : Span) (bytes : List ℕ) (b : ℕ) → lane - 1 < length c.unposted → IsCovered c b → IsCovered (written Moving lane span bytes c) b
write_covers c lane span bytes b there here = ⊎_elim
    (λ low. ⊎_elim (λ high. told (low, high)) (λ past. other (λ _ within. absurd (omega (arith, past, within)))) (cases_lt b (span.first + span.count)))
    (λ below. other (λ within _. absurd (omega (arith, below, within)))) (cases_le span.first b)
  where
    cases_le : (m n : ℕ) → (m ≤ n) ⊎ (n < m)
    cases_le m n = ⊎_elim (λ less. inr less) (λ more. inl more) (cases_lt n m)

    told : IsIn b span → IsCovered (written Moving lane span bytes c) b
    told within = inr (inr (inr (inl (lane_in b (lane - 1) c.unposted (spans_of c lane ++ span ∷ []) there (some_behind b (spans_of c lane) (span ∷ []) (inl within))))))

    other : (span.first ≤ b → b < span.first + span.count → ⊥) → IsCovered (written Moving lane span bytes c) b
    other out = covers c (written Moving lane span bytes c) b
        (λ same. inl (put_other span.first span.count b bytes c.source out ∙ same))
        (λ owed. inr (inl owed))
        (λ log. inr (inr (inl log)))
        (λ lanes. inr (inr (inr (inl (⊎_elim
        (λ mine. lane_in b (lane - 1) c.unposted (spans_of c lane ++ span ∷ []) there (some_more b (spans_of c lane) (span ∷ []) mine))
        (λ still. still) (lane_or b (lane - 1) c.unposted (spans_of c lane ++ span ∷ []) lanes))))))
        (λ mark. inr (inr (inr (inr mark)))) here

post_covers : (c : CoreState) (lane : ℕ) (b : ℕ) → lane - 1 < length c.unposted → IsCovered c b → IsCovered (after c (Post lane)) b
post_covers c lane b there here = by (is_lost c) refl
  where
    by : (lost : Bool) → is_lost c ≡ lost → IsCovered (after c (Post lane)) b
    by true is = inr (inr (inr (inr is)))
    by false is =
        let log_is : (after c (Post lane)).log ≡ c.log ++ take 1 (spans_of c lane) = rw is refl in
        covers c (after c (Post lane)) b
        (λ same. inl same)
        (λ owed. inr (inl owed))
        (λ log. inr (inr (inl (rw log_is (some_more b c.log (take 1 (spans_of c lane)) log)))))
        (λ lanes. ⊎_elim
        (λ mine. ⊎_elim
        (λ first. inr (inr (inl (rw log_is (some_behind b c.log (take 1 (spans_of c lane)) first)))))
        (λ more. inr (inr (inr (inl (lane_in b (lane - 1) c.unposted (drop 1 (spans_of c lane)) there more)))))
        (some_cut b (spans_of c lane) mine))
        (λ still. inr (inr (inr (inl still)))) (lane_or b (lane - 1) c.unposted (drop 1 (spans_of c lane)) lanes))
        (λ mark. inr (inr (inr (inr (rw mark refl))))) here

copy_covers : (c : CoreState) (block b : ℕ) → block < length c.destination → IsCovered c b → IsCovered (after c (Copy block)) b
copy_covers c block b there here = ⊎_elim
    (λ same. inl (ap (block_at c.source) same ∙ sym (get_or-set_at c.destination block b (block_at c.source block) [] same there)))
    (λ other. covers c (after c (Copy block)) b
    (λ same. inl (same ∙ sym (get_or-set_other c.destination block b (block_at c.source block) [] other)))
    (λ owed. inr (inl (get_or-set_other c.owed block b false false other ∙ owed)))
    (λ log. inr (inr (inl log)))
    (λ lanes. inr (inr (inr (inl lanes))))
    (λ mark. inr (inr (inr (inr mark)))) here)
    (cases_eq b block)

take_covers : (c : CoreState) (b : ℕ) → b < length c.owed → IsCovered c b → IsCovered (after c Take) b
take_covers c b there here = covers c (after c Take) b
    (λ same. inl same)
    (λ owed. inr (inl (still_taken c.log b c.owed there owed)))
    (λ log. ⊎_elim (λ owed. inr (inl owed)) (λ more. inr (inr (inl more))) (now_taken c.log b c.owed there log))
    (λ lanes. inr (inr (inr (inl lanes))))
    (λ mark. inr (inr (inr (inr mark)))) here

-- All blocks after each event.

-- an event that leaves the phase, where blocks are copied
lift : (p : CorePhase) (c d : CoreState) → c.phase ≡ p → d.phase ≡ p → length d.source ≡ length c.source →
    ((b : ℕ) → b < length c.source → IsCovered c b → IsCovered d b) → (p ≡ Suspended → IsCalm c → IsCalm d) → IsCoreCovered c → IsCoreCovered d
lift Moving c d was is same step calm covered =
    let all = subst (λ p. CoveredIn p c) was covered in
    rw is (λ b below. let there : b < length c.source = omega (arith, same, below) in step b there (all b there))
lift Suspended c d was is same step calm covered =
    let all = subst (λ p. CoveredIn p c) was covered in
    rw is ((λ b below. let there : b < length c.source = omega (arith, same, below) in step b there (all.0 b there)), calm refl all.1)
lift Resumed c d was is same step calm covered = rw is tt
lift GaveUp c d was is same step calm covered = rw is tt

write_all : (p : CorePhase) (c : CoreState) (lane : ℕ) (span : Span) (bytes : List ℕ) → c.phase ≡ p → lane - 1 < length c.unposted → IsCoreCovered c → IsCoreCovered (written p lane span bytes c)
write_all Moving c lane span bytes was there covered =
    lift Moving c (written Moving lane span bytes c) was was (length_put span.first span.count bytes c.source) (λ b _ here. write_covers c lane span bytes b there here) (λ is _. absurd cc) covered
write_all Suspended c lane span bytes was there covered = covered
write_all Resumed c lane span bytes was there covered = rw was tt
write_all GaveUp c lane span bytes was there covered = rw was tt

owed_within : (xs : List Bool) (i : ℕ) → slice_index_or xs i false ≡ true → i < length xs
owed_within [] i is = absurd cc
owed_within (x ∷ xs) zero is = omega arith
owed_within (x ∷ xs) (suc i) is = let below = owed_within xs i is in omega (arith, below)

pub covered_after : (c : CoreState) (e : CoreEvent) → IsShaped c → IsCoreCovered c → May c e → IsCoreCovered (after c e)
covered_after c (Piece lane span bytes) shaped covered may = write_all c.phase c lane span bytes refl (omega (arith, shaped.lanes, may.0.lane_within.0, may.0.lane_within.1)) covered
covered_after c (Post lane) shaped covered may =
    lift Moving c (after c (Post lane)) may.0 may.0 refl (λ b _ here. post_covers c lane b (omega (arith, shaped.lanes, may.1, may.2)) here) (λ is _. absurd cc) covered
covered_after c (Copy block) shaped covered may =
    let within = owed_within c.owed block may.1 in
    lift c.phase c (after c (Copy block)) refl refl refl (λ b _ here. copy_covers c block b (omega (arith, within, shaped.owed, shaped.destination)) here) (λ _ calm. calm) covered
covered_after c Take shaped covered may =
    lift c.phase c (after c Take) refl refl refl (λ b below here. take_covers c b (omega (arith, below, shaped.owed)) here) (λ _ calm. calm) covered
covered_after c Restart shaped covered may =
    lift Moving c (after c Restart) may.0 may.0 refl (λ b below _. inr (inl (get_or-replicate (length c.source) b true false below))) (λ is _. absurd cc) covered
covered_after c Suspend shaped covered may = (subst (λ p. CoveredIn p c) may.0 covered, (may.1, may.2))
covered_after c Resume shaped covered may = tt
covered_after c GiveUp shaped covered may = tt

-- lists that have the same elements are the same
same_blocks : (xs ys : List (List ℕ)) → length ys ≡ length xs → ((b : ℕ) → b < length xs → block_at xs b ≡ block_at ys b) → xs ≡ ys
same_blocks [] [] long same = refl
same_blocks [] (y ∷ ys) long same = absurd (omega (arith, long))
same_blocks (x ∷ xs) [] long same = absurd (omega (arith, long))
same_blocks (x ∷ xs) (y ∷ ys) long same =
    ap (λ z. z ∷ xs) (same 0 (omega arith)) ∙ ap (λ l. y ∷ l) (same_blocks xs ys (omega (arith, long)) (λ b below. same (suc b) (omega (arith, below))))

resumed_equal : (c : CoreState) → IsShaped c → IsCoreCovered c → May c Resume → c.source ≡ c.destination
resumed_equal c shaped covered may =
    let all = subst (λ p. CoveredIn p c) may.0 covered in
    same_blocks c.source c.destination shaped.destination (λ b below. ⊎_elim (λ same. same)
    (λ o. ⊎_elim (λ owed. let none = may.1 b in absurd cc)
    (λ l. ⊎_elim (λ log. absurd (none_in b c.log may.2 log))
    (λ u. ⊎_elim (λ lanes. absurd (none_in_lanes b c.unposted all.1.0 lanes)) (λ mark. let down = all.1.1 in absurd cc) u) l) o) (all.0 b below))

written_frozen : (p : CorePhase) (c : CoreState) (lane : ℕ) (span : Span) (bytes : List ℕ) → p ≡ Resumed → (written p lane span bytes c).source ≡ c.source
written_frozen Moving c lane span bytes is = absurd cc
written_frozen Suspended c lane span bytes is = refl
written_frozen Resumed c lane span bytes is = refl
written_frozen GaveUp c lane span bytes is = absurd cc

keeps_sides : (c : CoreState) (e : CoreEvent) → IsShaped c → IsCoreCovered c → May c e → KeepsSides c e (after c e)
keeps_sides c (Piece lane span bytes) shaped covered may = record { equal = λ is. absurd cc; frozen = λ is. written_frozen c.phase c lane span bytes is }
keeps_sides c (Post lane) shaped covered may = record { equal = λ is. absurd cc; frozen = λ _. refl }
keeps_sides c (Copy block) shaped covered may = record { equal = λ is. absurd cc; frozen = λ _. refl }
keeps_sides c Take shaped covered may = record { equal = λ is. absurd cc; frozen = λ _. refl }
keeps_sides c Restart shaped covered may = record { equal = λ is. absurd cc; frozen = λ _. refl }
keeps_sides c Suspend shaped covered may = record { equal = λ is. absurd cc; frozen = λ _. refl }
keeps_sides c Resume shaped covered may = record { equal = λ _. resumed_equal c shaped covered may; frozen = λ _. refl }
keeps_sides c GiveUp shaped covered may = record { equal = λ is. absurd cc; frozen = λ _. refl }

pub goes : {T E : Type 0} (old : CoreState) (e : CoreEvent) (result : Result T E) (new : CoreState) → IsShaped old → Does old e result new → Goes old e result new
goes old e (Ok x) new shaped does = record {
  covered = λ covered. rw does.new_is (covered_after old e shaped covered does.may);
  sides = λ covered. rw does.new_is (keeps_sides old e shaped covered does.may);
}
goes old e (Err x) new shaped does = record { covered = λ covered. rw does.kept covered; sides = tt }

-- Lists of events.

shaped_written : (p : CorePhase) (c : CoreState) (lane : ℕ) (span : Span) (bytes : List ℕ) → IsShaped c → IsShaped (written p lane span bytes c)
shaped_written Moving c lane span bytes shaped =
    let long = length_put span.first span.count bytes c.source in
    record {
      destination = shaped.destination ∙ sym long;
      owed = shaped.owed ∙ sym long;
      lanes = length-set c.unposted (lane - 1) (spans_of c lane ++ span ∷ []) ∙ shaped.lanes;
    }
shaped_written Suspended c lane span bytes shaped = shaped
shaped_written Resumed c lane span bytes shaped = record {
  destination = length_put span.first span.count bytes c.destination ∙ shaped.destination;
  owed = shaped.owed;
  lanes = shaped.lanes;
}
shaped_written GaveUp c lane span bytes shaped =
    let long = length_put span.first span.count bytes c.source in
    record { destination = shaped.destination ∙ sym long; owed = shaped.owed ∙ sym long; lanes = shaped.lanes }

length_taken : (log : List Span) (owed : List Bool) → length (owe_oldest log owed) ≡ length owed
length_taken [] owed = refl
length_taken (span ∷ spans) owed = length_owe span.first span.count owed

shaped_after : (c : CoreState) (e : CoreEvent) → IsShaped c → IsShaped (after c e)
shaped_after c (Piece lane span bytes) shaped = shaped_written c.phase c lane span bytes shaped
shaped_after c (Post lane) shaped = record { destination = shaped.destination; owed = shaped.owed; lanes = length-set c.unposted (lane - 1) (drop 1 (spans_of c lane)) ∙ shaped.lanes }
shaped_after c (Copy block) shaped = record {
  destination = length-set c.destination block (block_at c.source block) ∙ shaped.destination;
  owed = length-set c.owed block false ∙ shaped.owed;
  lanes = shaped.lanes;
}
shaped_after c Take shaped = record { destination = shaped.destination; owed = length_taken c.log c.owed ∙ shaped.owed; lanes = shaped.lanes }
shaped_after c Restart shaped = record { destination = shaped.destination; owed = length-replicate (length c.source) true; lanes = refl }
shaped_after c Suspend shaped = record { destination = shaped.destination; owed = shaped.owed; lanes = shaped.lanes }
shaped_after c Resume shaped = record { destination = shaped.destination; owed = shaped.owed; lanes = shaped.lanes }
shaped_after c GiveUp shaped = record { destination = shaped.destination; owed = length-replicate (length c.source) false; lanes = refl }

covered_on : (events : List CoreEvent) (c d : CoreState) → IsShaped c → IsCoreCovered c → Steps c events d → IsCoreCovered d
covered_on [] c d shaped covered steps = subst IsCoreCovered (sym steps) covered
covered_on (e ∷ events) c d shaped covered steps = covered_on events (after c e) d (shaped_after c e shaped) (covered_after c e shaped covered steps.0) steps.1

pub all_covered : (blocks cells : ℕ) (events : List CoreEvent) (c : CoreState) → Steps (start_core blocks cells) events c → IsCoreCovered c
all_covered blocks cells events c steps = covered_on events (start_core blocks cells) c
    (record {
      destination = length-replicate blocks (replicate 512 0) ∙ sym (length-replicate blocks (replicate 512 0));
      owed = length-replicate blocks true ∙ sym (length-replicate blocks (replicate 512 0));
      lanes = refl;
    })
    (λ b below. inl (refl)) steps
