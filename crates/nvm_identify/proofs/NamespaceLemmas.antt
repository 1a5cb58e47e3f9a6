-- A namespace's data and its bytes.
use Rattle.std.proofs.Common.{◌≡◌, ℕ, List, [], ◌∷◌, ◌++◌, length, take, refl, ap, ◌∙◌, arith}
use Rattle.std.proofs.lemmas.List.{take_at}
use Rattle.std.proofs.lemmas.Nat.{from_le_bytes-to_le_bytes_8}
use Rattle.std.specs.Int.{w64, to_le_bytes, from_le_bytes}
use Rattle.nvm_identify.specs.declared.namespace.IdNamespace.{IdNamespace}
use Rattle.nvm_identify.specs.Namespace.{IsNamespace, namespace_bytes, namespace_of}
use Rattle.nvm_identify.specs.Place.{zeroes}
use Rattle.nvm_identify.proofs.PlaceLemmas.{before, byte_of, ending, length-zeroes, longer}

-- the bytes before a place
abbrev pub front_8 : IdNamespace → List ℕ
front_8 n = to_le_bytes w64 n.nsze

abbrev pub front_16 : IdNamespace → List ℕ
front_16 n = front_8 n ++ to_le_bytes w64 n.ncap

abbrev pub front_24 : IdNamespace → List ℕ
front_24 n = front_16 n ++ to_le_bytes w64 n.nuse

abbrev pub front_25 : IdNamespace → List ℕ
front_25 n = front_24 n ++ zeroes 1

abbrev pub front_27 : IdNamespace → List ℕ
front_27 n = front_25 n ++ (n.nlbaf ∷ n.flbas ∷ [])

abbrev pub front_130 : IdNamespace → List ℕ
front_130 n = front_27 n ++ zeroes 103

abbrev pub front_131 : IdNamespace → List ℕ
front_131 n = front_130 n ++ (n.lbads ∷ [])

-- there are as many bytes before a place as its name says
pub record HasFronts (n : IdNamespace) : Type 0 where
  pub to8 : length (front_8 n) ≡ 8
  pub to16 : length (front_16 n) ≡ 16
  pub to24 : length (front_24 n) ≡ 24
  pub to25 : length (front_25 n) ≡ 25
  pub to27 : length (front_27 n) ≡ 27
  pub to130 : length (front_130 n) ≡ 130
  pub to131 : length (front_131 n) ≡ 131

pub fronts : (n : IdNamespace) → HasFronts n
fronts n =
    let to25 = longer 24 1 (front_24 n) (zeroes 1) refl (length-zeroes 1) in
    let to27 = longer 25 2 (front_25 n) (n.nlbaf ∷ n.flbas ∷ []) to25 refl in
    let to130 = longer 27 103 (front_27 n) (zeroes 103) to27 (length-zeroes 103) in
    let to131 = longer 130 1 (front_130 n) (n.lbads ∷ []) to130 refl in
    record { to8 = refl; to16 = refl; to24 = refl; to25 = to25; to27 = to27; to130 = to130; to131 = to131 }

-- each field of bytes that begin so
pub namespace_of-front : (n : IdNamespace) (b : List ℕ) → IsNamespace n → HasFronts n → take 131 b ≡ front_131 n → namespace_of b ≡ n
namespace_of-front n b is size at131 =
    let at130 = before 130 1 b (front_130 n) (n.lbads ∷ []) at131 size.to130 in
    let at27 = before 27 103 b (front_27 n) (zeroes 103) at130 size.to27 in
    let at25 = before 25 2 b (front_25 n) (n.nlbaf ∷ n.flbas ∷ []) at27 size.to25 in
    let at24 = before 24 1 b (front_24 n) (zeroes 1) at25 size.to24 in
    let at16 = before 16 8 b (front_16 n) (to_le_bytes w64 n.nuse) at24 size.to16 in
    let at8 = before 8 8 b (front_8 n) (to_le_bytes w64 n.ncap) at16 size.to8 in
    let formats = ending 25 2 b (front_25 n) (n.nlbaf ∷ n.flbas ∷ []) at27 size.to25 in
    let nsze = ap (from_le_bytes w64) at8 ∙ from_le_bytes-to_le_bytes_8 n.nsze is.nsze in
    let ncap = ap (from_le_bytes w64) (ending 8 8 b (front_8 n) (to_le_bytes w64 n.ncap) at16 size.to8) ∙ from_le_bytes-to_le_bytes_8 n.ncap is.ncap in
    let nuse = ap (from_le_bytes w64) (ending 16 8 b (front_16 n) (to_le_bytes w64 n.nuse) at24 size.to16) ∙ from_le_bytes-to_le_bytes_8 n.nuse is.nuse in
    let nlbaf = byte_of 25 2 0 b (n.nlbaf ∷ n.flbas ∷ []) formats (omega arith) in
    let flbas = byte_of 25 2 1 b (n.nlbaf ∷ n.flbas ∷ []) formats (omega arith) in
    let lbads = byte_of 130 1 0 b (n.lbads ∷ []) (ending 130 1 b (front_130 n) (n.lbads ∷ []) at131 size.to130) (omega arith) in
    λ k. record { nsze = nsze k; ncap = ncap k; nuse = nuse k; nlbaf = nlbaf k; flbas = flbas k; lbads = lbads k }

-- the namespace's data in the bytes of a namespace's data are that data
pub namespace_of-namespace_bytes : (n : IdNamespace) (b : List ℕ) → IsNamespace n → b ≡ namespace_bytes n → namespace_of b ≡ n
unfolding namespace_bytes
namespace_of-namespace_bytes n b is made =
    let size : HasFronts n = fronts n in
    namespace_of-front n b is size (ap (take 131) made ∙ take_at (front_131 n) (zeroes 3965) 131 size.to131)
