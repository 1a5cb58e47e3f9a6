-- A controller's data and its bytes.
use Rattle.std.proofs.Common.{◌≡◌, ℕ, List, [], ◌∷◌, ◌++◌, length, take, refl, ap, ◌∙◌, arith}
use Rattle.std.proofs.lemmas.List.{take_at}
use Rattle.std.proofs.lemmas.Nat.{from_le_bytes-to_le_bytes_2, from_le_bytes-to_le_bytes_4}
use Rattle.std.specs.Int.{w16, w32, to_le_bytes, from_le_bytes}
use Rattle.nvm_identify.specs.declared.controller.IdController.{IdController}
use Rattle.nvm_identify.specs.Controller.{IsController, controller_bytes, controller_of}
use Rattle.nvm_identify.specs.Place.{zeroes}
use Rattle.nvm_identify.proofs.PlaceLemmas.{before, byte_of, ending, length-zeroes, longer}

-- the bytes before a place
abbrev pub front_2 : IdController → List ℕ
front_2 c = to_le_bytes w16 c.vid

abbrev pub front_4 : IdController → List ℕ
front_4 c = front_2 c ++ zeroes 2

abbrev pub front_24 : IdController → List ℕ
front_24 c = front_4 c ++ c.sn

abbrev pub front_64 : IdController → List ℕ
front_64 c = front_24 c ++ c.mn

abbrev pub front_72 : IdController → List ℕ
front_72 c = front_64 c ++ c.fr

abbrev pub front_77 : IdController → List ℕ
front_77 c = front_72 c ++ zeroes 5

abbrev pub front_78 : IdController → List ℕ
front_78 c = front_77 c ++ (c.mdts ∷ [])

abbrev pub front_80 : IdController → List ℕ
front_80 c = front_78 c ++ to_le_bytes w16 c.cntlid

abbrev pub front_512 : IdController → List ℕ
front_512 c = front_80 c ++ zeroes 432

abbrev pub front_514 : IdController → List ℕ
front_514 c = front_512 c ++ (c.sqes ∷ c.cqes ∷ [])

abbrev pub front_516 : IdController → List ℕ
front_516 c = front_514 c ++ zeroes 2

abbrev pub front_520 : IdController → List ℕ
front_520 c = front_516 c ++ to_le_bytes w32 c.nn

-- there are as many bytes before a place as its name says
pub record HasFronts (c : IdController) : Type 0 where
  pub to2 : length (front_2 c) ≡ 2
  pub to4 : length (front_4 c) ≡ 4
  pub to24 : length (front_24 c) ≡ 24
  pub to64 : length (front_64 c) ≡ 64
  pub to72 : length (front_72 c) ≡ 72
  pub to77 : length (front_77 c) ≡ 77
  pub to78 : length (front_78 c) ≡ 78
  pub to80 : length (front_80 c) ≡ 80
  pub to512 : length (front_512 c) ≡ 512
  pub to514 : length (front_514 c) ≡ 514
  pub to516 : length (front_516 c) ≡ 516
  pub to520 : length (front_520 c) ≡ 520

pub fronts : (c : IdController) → IsController c → HasFronts c
fronts c is =
    let to4 = longer 2 2 (front_2 c) (zeroes 2) refl (length-zeroes 2) in
    let to24 = longer 4 20 (front_4 c) c.sn to4 is.sn in
    let to64 = longer 24 40 (front_24 c) c.mn to24 is.mn in
    let to72 = longer 64 8 (front_64 c) c.fr to64 is.fr in
    let to77 = longer 72 5 (front_72 c) (zeroes 5) to72 (length-zeroes 5) in
    let to78 = longer 77 1 (front_77 c) (c.mdts ∷ []) to77 refl in
    let to80 = longer 78 2 (front_78 c) (to_le_bytes w16 c.cntlid) to78 refl in
    let to512 = longer 80 432 (front_80 c) (zeroes 432) to80 (length-zeroes 432) in
    let to514 = longer 512 2 (front_512 c) (c.sqes ∷ c.cqes ∷ []) to512 refl in
    let to516 = longer 514 2 (front_514 c) (zeroes 2) to514 (length-zeroes 2) in
    let to520 = longer 516 4 (front_516 c) (to_le_bytes w32 c.nn) to516 refl in
    record { to2 = refl; to4 = to4; to24 = to24; to64 = to64; to72 = to72; to77 = to77; to78 = to78; to80 = to80; to512 = to512; to514 = to514; to516 = to516; to520 = to520 }

-- each field of bytes that begin so
pub controller_of-front : (c : IdController) (b : List ℕ) → IsController c → HasFronts c → take 520 b ≡ front_520 c → controller_of b ≡ c
controller_of-front c b is size at520 =
    let at516 = before 516 4 b (front_516 c) (to_le_bytes w32 c.nn) at520 size.to516 in
    let at514 = before 514 2 b (front_514 c) (zeroes 2) at516 size.to514 in
    let at512 = before 512 2 b (front_512 c) (c.sqes ∷ c.cqes ∷ []) at514 size.to512 in
    let at80 = before 80 432 b (front_80 c) (zeroes 432) at512 size.to80 in
    let at78 = before 78 2 b (front_78 c) (to_le_bytes w16 c.cntlid) at80 size.to78 in
    let at77 = before 77 1 b (front_77 c) (c.mdts ∷ []) at78 size.to77 in
    let at72 = before 72 5 b (front_72 c) (zeroes 5) at77 size.to72 in
    let at64 = before 64 8 b (front_64 c) c.fr at72 size.to64 in
    let at24 = before 24 40 b (front_24 c) c.mn at64 size.to24 in
    let at4 = before 4 20 b (front_4 c) c.sn at24 size.to4 in
    let at2 = before 2 2 b (front_2 c) (zeroes 2) at4 size.to2 in
    let sizes = ending 512 2 b (front_512 c) (c.sqes ∷ c.cqes ∷ []) at514 size.to512 in
    let vid = ap (from_le_bytes w16) at2 ∙ from_le_bytes-to_le_bytes_2 c.vid is.vid in
    let sn = ending 4 20 b (front_4 c) c.sn at24 size.to4 in
    let mn = ending 24 40 b (front_24 c) c.mn at64 size.to24 in
    let fr = ending 64 8 b (front_64 c) c.fr at72 size.to64 in
    let mdts = byte_of 77 1 0 b (c.mdts ∷ []) (ending 77 1 b (front_77 c) (c.mdts ∷ []) at78 size.to77) (omega arith) in
    let cntlid = ap (from_le_bytes w16) (ending 78 2 b (front_78 c) (to_le_bytes w16 c.cntlid) at80 size.to78) ∙ from_le_bytes-to_le_bytes_2 c.cntlid is.cntlid in
    let sqes = byte_of 512 2 0 b (c.sqes ∷ c.cqes ∷ []) sizes (omega arith) in
    let cqes = byte_of 512 2 1 b (c.sqes ∷ c.cqes ∷ []) sizes (omega arith) in
    let nn = ap (from_le_bytes w32) (ending 516 4 b (front_516 c) (to_le_bytes w32 c.nn) at520 size.to516) ∙ from_le_bytes-to_le_bytes_4 c.nn is.nn in
    λ k. record { vid = vid k; sn = sn k; mn = mn k; fr = fr k; mdts = mdts k; cntlid = cntlid k; sqes = sqes k; cqes = cqes k; nn = nn k }

-- the controller's data in the bytes of a controller's data are that data
pub controller_of-controller_bytes : (c : IdController) (b : List ℕ) → IsController c → b ≡ controller_bytes c → controller_of b ≡ c
unfolding controller_bytes
controller_of-controller_bytes c b is made =
    let size : HasFronts c = fronts c is in
    controller_of-front c b is size (ap (take 520) made ∙ take_at (front_520 c) (zeroes 3576) 520 size.to520)
