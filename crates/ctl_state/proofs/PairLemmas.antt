-- A pair and its bytes.
use Rattle.std.proofs.Common.{◌≡◌, ◌<◌, ◌≤◌, ◌+◌, ◌-◌, ◌*◌, ◌/◌, ◌%◌, ◌==◌, ℕ, zero, suc, Bool, true, false, cond, List, [], ◌∷◌, length, slice_index, refl, sym, subst, arith}
use Rattle.std.specs.Int.{w64, to_le_bytes}
use Rattle.nvm_ring.specs.Places.{IsRing}
use Rattle.ctl_state.specs.declared.image.PairState.{PairState}
use Rattle.ctl_state.specs.Bounds.{Follows, IsWithin, only, pair_bounds, pair_of}
use Rattle.ctl_state.specs.Image.{IsPair, cq_address, pair_bytes, sq_address}
use Rattle.ctl_state.proofs.FollowsLemmas.{drop-listed, follows_at, listed}

pub one : (n : ℕ) → IsWithin (only n) n
one n = (omega arith, omega arith)

phase_within : (b : Bool) → (0 ≤ cond b 1 0) × (cond b 1 0 ≤ 1)
phase_within true = (omega arith, omega arith)
phase_within false = (omega arith, omega arith)

-- each byte of a pair may stand behind those before it
pub pair_follows : (lane : ℕ) (pair : PairState) → IsPair pair → Follows (pair_bounds lane) [] (pair_bytes lane pair)
pair_follows lane pair is =
    let sq = is.sq in
    let cq = is.cq in
    let s = λ (i : ℕ). one (slice_index (to_le_bytes w64 (sq_address lane)) i) in
    let c = λ (i : ℕ). one (slice_index (to_le_bytes w64 (cq_address lane)) i) in (
      s 0,
      (
        s 1,
        (
          s 2,
          (
            s 3,
            (
              s 4,
              (
                s 5,
                (
                  s 6,
                  (
                    s 7,
                    (
                      c 0,
                      (
                        c 1,
                        (
                          c 2,
                          (
                            c 3,
                            (
                              c 4,
                              (
                                c 5,
                                (
                                  c 6,
                                  (
                                    c 7,
                                    (
                                      (omega arith, omega arith),
                                      (
                                        (omega arith, omega arith),
                                        (
                                          (omega arith, omega arith),
                                          (
                                            (omega arith, omega arith),
                                            (
                                              (omega arith, omega arith),
                                              (
                                                (omega arith, omega arith),
                                                (
                                                  (omega arith, omega arith),
                                                  (
                                                    (omega arith, omega arith),
                                                    (
                                                      (omega arith, omega arith),
                                                      (
                                                        (omega arith, omega arith),
                                                        (
                                                          (omega arith, omega arith),
                                                          (
                                                            (omega arith, omega arith),
                                                            (phase_within pair.phase, (one 0, (one 0, (one 0, tt)))),
                                                          ),
                                                        ),
                                                      ),
                                                    ),
                                                  ),
                                                ),
                                              ),
                                            ),
                                          ),
                                        ),
                                      ),
                                    ),
                                  ),
                                ),
                              ),
                            ),
                          ),
                        ),
                      ),
                    ),
                  ),
                ),
              ),
            ),
          ),
        ),
      ),
    )

-- one number alone
pub only_is : (byte x : ℕ) → IsWithin (only byte) x → byte ≡ x
only_is byte x within = omega arith

phase_is : (x : ℕ) → x ≤ 1 → cond (x == 1) 1 0 ≡ x
phase_is zero few = refl
phase_is (suc zero) few = refl
phase_is (suc (suc x)) few = absurd (omega arith)

-- the pair of 32 bytes has them
pub record IsRead (lane : ℕ) (bytes : List ℕ) : Type 0 where
  pub is : IsPair (pair_of bytes)
  pub back : pair_bytes lane (pair_of bytes) ≡ bytes

read_listed : (lane : ℕ) (g : List ℕ) → Follows (pair_bounds lane) [] (listed 0 32 g) → IsRead lane (listed 0 32 g)
read_listed lane g all =
    let at = λ (i : ℕ) (there : i < 32). follows_at (pair_bounds lane) [] (listed 0 32 g) i all there in
    let b16 : (1 ≤ slice_index g 16) × (slice_index g 16 ≤ 63) = at 16 (omega arith) in
    let b17 : (0 ≤ slice_index g 17) × (slice_index g 17 ≤ 0) = at 17 (omega arith) in
    let b18 : (0 ≤ slice_index g 18) × (slice_index g 18 ≤ slice_index g 16) = at 18 (omega arith) in
    let b19 : (0 ≤ slice_index g 19) × (slice_index g 19 ≤ 0) = at 19 (omega arith) in
    let b20 : (0 ≤ slice_index g 20) × (slice_index g 20 ≤ slice_index g 16) = at 20 (omega arith) in
    let b21 : (0 ≤ slice_index g 21) × (slice_index g 21 ≤ 0) = at 21 (omega arith) in
    let b22 : (1 ≤ slice_index g 22) × (slice_index g 22 ≤ 255) = at 22 (omega arith) in
    let b23 : (0 ≤ slice_index g 23) × (slice_index g 23 ≤ 0) = at 23 (omega arith) in
    let b24 : (0 ≤ slice_index g 24) × (slice_index g 24 ≤ slice_index g 22) = at 24 (omega arith) in
    let b25 : (0 ≤ slice_index g 25) × (slice_index g 25 ≤ 0) = at 25 (omega arith) in
    let b26 : (0 ≤ slice_index g 26) × (slice_index g 26 ≤ slice_index g 22) = at 26 (omega arith) in
    let b27 : (0 ≤ slice_index g 27) × (slice_index g 27 ≤ 0) = at 27 (omega arith) in
    let b28 : (0 ≤ slice_index g 28) × (slice_index g 28 ≤ 1) = at 28 (omega arith) in
    let sq : IsRing 64 (pair_of (listed 0 32 g)).sq = record { at_least = omega arith; at_most = omega arith; head = omega arith; tail = omega arith } in
    let cq : IsRing 256 (pair_of (listed 0 32 g)).cq = record { at_least = omega arith; at_most = omega arith; head = omega arith; tail = omega arith } in
    let e16 : (slice_index g 16 + 1 - 1) % 256 ≡ slice_index g 16 = omega arith in
    let e17 : (slice_index g 16 + 1 - 1) / 256 % 256 ≡ slice_index g 17 = omega arith in
    let e22 : (slice_index g 22 + 1 - 1) % 256 ≡ slice_index g 22 = omega arith in
    let e23 : (slice_index g 22 + 1 - 1) / 256 % 256 ≡ slice_index g 23 = omega arith in
    let e18 : (slice_index g 18 + slice_index g 19 * 256) % 256 ≡ slice_index g 18 = omega arith in
    let e19 : (slice_index g 18 + slice_index g 19 * 256) / 256 % 256 ≡ slice_index g 19 = omega arith in
    let e20 : (slice_index g 20 + slice_index g 21 * 256) % 256 ≡ slice_index g 20 = omega arith in
    let e21 : (slice_index g 20 + slice_index g 21 * 256) / 256 % 256 ≡ slice_index g 21 = omega arith in
    let e24 : (slice_index g 24 + slice_index g 25 * 256) % 256 ≡ slice_index g 24 = omega arith in
    let e25 : (slice_index g 24 + slice_index g 25 * 256) / 256 % 256 ≡ slice_index g 25 = omega arith in
    let e26 : (slice_index g 26 + slice_index g 27 * 256) % 256 ≡ slice_index g 26 = omega arith in
    let e27 : (slice_index g 26 + slice_index g 27 * 256) / 256 % 256 ≡ slice_index g 27 = omega arith in
    record {
      is = record { sq = sq; cq = cq };
      back = λ k.
          only_is (slice_index (to_le_bytes w64 (sq_address lane)) 0) (slice_index g 0) (at 0 (omega arith)) k ∷
          only_is (slice_index (to_le_bytes w64 (sq_address lane)) 1) (slice_index g 1) (at 1 (omega arith)) k ∷
          only_is (slice_index (to_le_bytes w64 (sq_address lane)) 2) (slice_index g 2) (at 2 (omega arith)) k ∷
          only_is (slice_index (to_le_bytes w64 (sq_address lane)) 3) (slice_index g 3) (at 3 (omega arith)) k ∷
          only_is (slice_index (to_le_bytes w64 (sq_address lane)) 4) (slice_index g 4) (at 4 (omega arith)) k ∷
          only_is (slice_index (to_le_bytes w64 (sq_address lane)) 5) (slice_index g 5) (at 5 (omega arith)) k ∷
          only_is (slice_index (to_le_bytes w64 (sq_address lane)) 6) (slice_index g 6) (at 6 (omega arith)) k ∷
          only_is (slice_index (to_le_bytes w64 (sq_address lane)) 7) (slice_index g 7) (at 7 (omega arith)) k ∷
          only_is (slice_index (to_le_bytes w64 (cq_address lane)) 0) (slice_index g 8) (at 8 (omega arith)) k ∷
          only_is (slice_index (to_le_bytes w64 (cq_address lane)) 1) (slice_index g 9) (at 9 (omega arith)) k ∷
          only_is (slice_index (to_le_bytes w64 (cq_address lane)) 2) (slice_index g 10) (at 10 (omega arith)) k ∷
          only_is (slice_index (to_le_bytes w64 (cq_address lane)) 3) (slice_index g 11) (at 11 (omega arith)) k ∷
          only_is (slice_index (to_le_bytes w64 (cq_address lane)) 4) (slice_index g 12) (at 12 (omega arith)) k ∷
          only_is (slice_index (to_le_bytes w64 (cq_address lane)) 5) (slice_index g 13) (at 13 (omega arith)) k ∷
          only_is (slice_index (to_le_bytes w64 (cq_address lane)) 6) (slice_index g 14) (at 14 (omega arith)) k ∷
          only_is (slice_index (to_le_bytes w64 (cq_address lane)) 7) (slice_index g 15) (at 15 (omega arith)) k ∷
          e16 k ∷ e17 k ∷ e18 k ∷ e19 k ∷ e20 k ∷ e21 k ∷ e22 k ∷ e23 k ∷ e24 k ∷ e25 k ∷ e26 k ∷ e27 k ∷
          phase_is (slice_index g 28) b28.1 k ∷
          only_is 0 (slice_index g 29) (at 29 (omega arith)) k ∷
          only_is 0 (slice_index g 30) (at 30 (omega arith)) k ∷
          only_is 0 (slice_index g 31) (at 31 (omega arith)) k ∷
          [];
    }

pub read_back : (lane : ℕ) (g : List ℕ) → length g ≡ 32 → Follows (pair_bounds lane) [] g → IsRead lane g
read_back lane g size all =
    let is : g ≡ listed 0 32 g = drop-listed 0 32 g size in
    subst (λ (h : List ℕ). IsRead lane h) (sym is) (read_listed lane g (subst (λ (h : List ℕ). Follows (pair_bounds lane) [] h) is all))

-- and of a pair's bytes it is that pair
phase_back : (b : Bool) → (cond b 1 0 == 1) ≡ b
phase_back true = refl
phase_back false = refl

pub pair_of-pair_bytes : (lane : ℕ) (pair : PairState) → IsPair pair → pair_of (pair_bytes lane pair) ≡ pair
pair_of-pair_bytes lane pair is =
    let sq = is.sq in
    let cq = is.cq in
    let a : (pair.sq.size - 1) % 256 + 1 ≡ pair.sq.size = omega arith in
    let b : pair.sq.head % 256 + pair.sq.head / 256 % 256 * 256 ≡ pair.sq.head = omega arith in
    let c : pair.sq.tail % 256 + pair.sq.tail / 256 % 256 * 256 ≡ pair.sq.tail = omega arith in
    let d : (pair.cq.size - 1) % 256 + 1 ≡ pair.cq.size = omega arith in
    let e : pair.cq.head % 256 + pair.cq.head / 256 % 256 * 256 ≡ pair.cq.head = omega arith in
    let f : pair.cq.tail % 256 + pair.cq.tail / 256 % 256 * 256 ≡ pair.cq.tail = omega arith in
    λ k. record { sq = record { size = a k; head = b k; tail = c k }; cq = record { size = d k; head = e k; tail = f k }; phase = phase_back pair.phase k }
