use Rattle.std.proofs.Common.{◌++◌, take}
use Rattle.mig_base.proofs.WriteLemmas.{writes_then, writes_no_more}
use Rattle.nvm_model.specs.ScriptText.{lane_lines, migrate_line}
use Rattle.std.specs.List.{flat_map}
use Rattle.script.specs.Keys.{later_keys, first_keys}
use Rattle.script.specs.Writing.{key_text}
use Rattle.script.proofs.Writing.{head_parts}
use Rattle.script.proofs.write.write_head.Goals as goal

pub returns-in_err-write_line : goal.returns-in_err-write_line
returns-in_err-write_line g c =
    let h = c.args.head.now in
    rw (head_parts h) (writes_no_more (flat_map (key_text h) first_keys ++ (lane_lines 1 (take h.lanes h.sets) ++ (flat_map (key_text h) later_keys ++ migrate_line h.migrate))) c.in_err-write_line.ensures c.from_residual.ensures.0)

pub returns-in_err-write_keys : goal.returns-in_err-write_keys
returns-in_err-write_keys g c =
    let h = c.args.head.now in
    rw (head_parts h) (writes_then c.in_ok-write_line.ensures (writes_no_more (lane_lines 1 (take h.lanes h.sets) ++ (flat_map (key_text h) later_keys ++ migrate_line h.migrate)) c.in_err-write_keys.ensures c.from_residual-in_err-write_keys.ensures.0))

pub returns-in_err-write_lanes : goal.returns-in_err-write_lanes
returns-in_err-write_lanes g c =
    let h = c.args.head.now in
    rw (head_parts h) (writes_then c.in_ok-write_line.ensures (writes_then c.in_ok-write_keys.ensures (writes_no_more (flat_map (key_text h) later_keys ++ migrate_line h.migrate) c.in_err-write_lanes.ensures c.from_residual-in_err-write_lanes.ensures.0)))

pub returns-in_err-write_keys-2 : goal.returns-in_err-write_keys-2
returns-in_err-write_keys-2 g c =
    let h = c.args.head.now in
    rw (head_parts h) (writes_then c.in_ok-write_line.ensures (writes_then c.in_ok-write_keys.ensures (writes_then c.in_ok-write_lanes.ensures (writes_no_more (migrate_line h.migrate) c.in_err-write_keys-2.ensures c.from_residual-in_err-write_keys-2.ensures.0))))

pub returns : goal.returns
returns g c =
    rw (head_parts c.args.head.now) (writes_then c.in_ok-write_line.ensures (writes_then c.in_ok-write_keys.ensures (writes_then c.in_ok-write_lanes.ensures (writes_then c.in_ok-write_keys-2.ensures c.write_migrate.ensures))))
