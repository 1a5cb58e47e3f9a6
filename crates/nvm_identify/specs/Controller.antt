use Rattle.std.specs.Prelude.{◌≡◌, ◌<◌, ◌^◌, ℕ, List, [], ◌∷◌, ◌++◌, length, slice_index, codes}
use Rattle.std.specs.Int.{w16, w32, to_le_bytes}
use Rattle.nvm_identify.specs.declared.controller.IdController.{IdController}
use Rattle.nvm_identify.specs.Place.{zeroes, part_at, number_at}

-- The 4,096 bytes of a controller's Identify data, every number little-endian: the fields at bytes 0, 4, 24, 64, 77, 78,
-- 512, 513 and 516. (Base 2.1, Identify Controller data structure.)
unfoldable pub controller_bytes : IdController → List ℕ
controller_bytes c =
    to_le_bytes w16 c.vid ++ zeroes 2 ++ c.sn ++ c.mn ++ c.fr ++ zeroes 5 ++ (c.mdts ∷ []) ++ to_le_bytes w16 c.cntlid
    ++ zeroes 432 ++ (c.sqes ∷ c.cqes ∷ []) ++ zeroes 2 ++ to_le_bytes w32 c.nn ++ zeroes 3576

-- the controller's data in 4,096 bytes
abbrev pub controller_of : List ℕ → IdController
controller_of bytes = record {
  vid = number_at w16 0 bytes;
  sn = part_at 20 4 bytes;
  mn = part_at 40 24 bytes;
  fr = part_at 8 64 bytes;
  mdts = slice_index bytes 77;
  cntlid = number_at w16 78 bytes;
  sqes = slice_index bytes 512;
  cqes = slice_index bytes 513;
  nn = number_at w32 516 bytes;
}

-- each number that takes more than a byte fits its field, and each text fills it
pub record IsController (c : IdController) : Type 0 where
  pub vid : c.vid < 2 ^ 16
  pub sn : length c.sn ≡ 20
  pub mn : length c.mn ≡ 40
  pub fr : length c.fr ≡ 8
  pub cntlid : c.cntlid < 2 ^ 16
  pub nn : c.nn < 2 ^ 32

-- the product's own controller
abbrev pub own : IdController
own = record {
  vid = 0;
  sn = codes "NVMIGRATE0000000001 ";
  mn = codes "nvmigrate virtual controller            ";
  fr = codes "1       ";
  mdts = 3;
  cntlid = 1;
  sqes = 102;
  cqes = 68;
  nn = 1;
}
