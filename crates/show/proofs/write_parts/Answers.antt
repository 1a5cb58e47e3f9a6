use Rattle.std.proofs.Common.{take}
use Rattle.mig_base.proofs.WriteLemmas.{writes_then, writes_no_more, writes_longer}
use Rattle.show.specs.ShowText.{namespace_text, lane_lines, digests_text}
use Rattle.show.proofs.write_parts.Goals as goal

pub returns-in_err-write_controller : goal.returns-in_err-write_controller
returns-in_err-write_controller g c =
    let script = c.args.s.now in
    let err = c.from_residual.ensures.0 in
    writes_longer (digests_text script.head.blocks) err (writes_longer (lane_lines script.acts 1 (take script.head.lanes script.head.sets)) err (writes_no_more (namespace_text script.head) c.in_err-write_controller.ensures err))

pub returns-in_err-write_namespace : goal.returns-in_err-write_namespace
returns-in_err-write_namespace g c =
    let script = c.args.s.now in
    let err = c.from_residual-in_err-write_namespace.ensures.0 in
    writes_longer (digests_text script.head.blocks) err (writes_no_more (lane_lines script.acts 1 (take script.head.lanes script.head.sets)) (writes_then c.in_ok-write_controller.ensures c.in_err-write_namespace.ensures) err)

pub returns-in_err-write_lanes : goal.returns-in_err-write_lanes
returns-in_err-write_lanes g c = writes_no_more (digests_text c.args.s.now.head.blocks) (writes_then (writes_then c.in_ok-write_controller.ensures c.in_ok-write_namespace.ensures) c.in_err-write_lanes.ensures) c.from_residual-in_err-write_lanes.ensures.0

pub returns : goal.returns
returns g c = writes_then (writes_then (writes_then c.in_ok-write_controller.ensures c.in_ok-write_namespace.ensures) c.in_ok-write_lanes.ensures) c.write_digests.ensures
