use Rattle.std.proofs.Common.{◌≡◌, ◌∙◌, ℕ, sym, ap, subst}
use Rattle.session.specs.Moves.{Brings}
use Rattle.session.specs.Port.{moves_port, port_of}
use Rattle.session.proofs.MoveLemmas.{same_names}
use Rattle.session.proofs.cutover.cut_over.Goals as goal

pub bring-requires-clause-fits : goal.bring-requires-clause-fits
bring-requires-clause-fits g c = rw (c.between-port.ensures.at, c.between-port.ensures.to) (c.requires.fits _)

pub returns : goal.returns
returns g c =
    let state = g.M.Medium.state in
    let dest = g.D.Dest.moves in
    let new = c.bring.new.port in
    let made = c.between-port.result in
    let m = c.args.manager.now in
    let t = c.args.t in
    let names : (new.at.ghost_name, new.to.ghost_name) ≡ (made.at.ghost_name, made.to.ghost_name) = same_names state g.M.Medium.moves dest t m c.bring.result _ _ c.bring.ensures in
    let at = c.at-1.given.1 (sym (ap (λ (n : ℕ × ℕ). n.0) names ∙ ap (λ b. b.ghost_name) c.between-port.ensures.at)) in
    let to = c.to-1.given.1 (sym (ap (λ (n : ℕ × ℕ). n.1) names ∙ ap (λ b. b.ghost_name) c.between-port.ensures.to)) in
    let done = subst (λ (n : ℕ × ℕ). Brings (moves_port state g.M.Medium.moves dest) t m c.bring.result (port_of state (made.at.ghost_name, made.to.ghost_name) made.at.now (g.D.Dest.state made.to.now)) (port_of state n new.at.now (g.D.Dest.state new.to.now)))
    names c.bring.ensures in
    ((made.at.ghost_name, made.to.ghost_name), rw (at, to, sym (ap (λ b. b.now) c.between-port.ensures.at), sym (ap (λ b. b.now) c.between-port.ensures.to)) done)
