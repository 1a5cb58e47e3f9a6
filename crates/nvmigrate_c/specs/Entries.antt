use Rattle.std.specs.Prelude.{◌≤◌, ◌==◌}
use Rattle.nvm_values.specs.declared.sqe.Sqe.{Sqe}
use Rattle.nvm_values.specs.Cqe.{CqeFields}
use Rattle.nvmigrate_c.specs.declared.entry.SqEntry.{SqEntry}
use Rattle.nvmigrate_c.specs.declared.entry.CqEntry.{CqEntry}

-- What C's structs of entries say.

abbrev pub sqe_in : SqEntry → Sqe
sqe_in e = record {
  opcode = e.opcode;
  flags = e.flags;
  cid = e.cid;
  nsid = e.nsid;
  cdw2 = e.cdw2;
  cdw3 = e.cdw3;
  mptr = e.mptr;
  prp1 = e.prp1;
  prp2 = e.prp2;
  cdw10 = e.cdw10;
  cdw11 = e.cdw11;
  cdw12 = e.cdw12;
  cdw13 = e.cdw13;
  cdw14 = e.cdw14;
  cdw15 = e.cdw15;
}

abbrev pub cqe_in : CqEntry → CqeFields
cqe_in e = record {
  dw0 = e.dw0;
  dw1 = e.dw1;
  sqhd = e.sqhd;
  sqid = e.sqid;
  cid = e.cid;
  phase = e.phase == 1;
  status = (e.sct, e.sc);
  mid = e.crd;
  more = e.more == 1;
  dnr = e.dnr == 1;
}

-- a completion whose numbers are in their ranges
pub record IsCqEntry (e : CqEntry) : Type 0 where
  pub phase : e.phase ≤ 1
  pub sct : e.sct ≤ 7
  pub crd : e.crd ≤ 3
  pub more : e.more ≤ 1
  pub dnr : e.dnr ≤ 1
