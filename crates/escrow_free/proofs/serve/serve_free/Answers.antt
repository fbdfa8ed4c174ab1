use mir.Syntax.{ty_param}
use denote.Exit.{yes}
use denote.Param.Send.{arg_send, param_send}
use Rattle.std.proofs.Common.{ap, sym, ◌∙◌, arith}
use Rattle.escrow_num.specs.declared.session.TheConstants.Session.{MAX_SHARED}
use Rattle.escrow_shards.specs.Pass.{new_passes}
use Rattle.escrow_shards.proofs.Crossing.{locked_send}
use Rattle.escrow_free.proofs.Closing.{openings_long}
use Rattle.escrow_free.proofs.serve.serve_free.Goals as goal

pub serve_stage-requires-send-L : goal.serve_stage-requires-send-L
serve_stage-requires-send-L g c κs within =
    let send = locked_send _ g.S.Store c.type_bounds.send-S in
    record { owned = send.owned; leaving = (param_send 1 _ (arg_send (ty_param 1) yes _ send)).leaving }

pub serve_stage-requires-clause-few : goal.serve_stage-requires-clause-few
serve_stage-requires-clause-few g c κs within =
    let long = openings_long g.S.Store c.args.databases.items c.in_ok-stage.stage.shared.openings c.in_ok-stage.ensures.read in
    omega (arith, long, c.requires.few, c.args.databases.ok.0)

pub serve_stage-requires-clause-passes : goal.serve_stage-requires-clause-passes
serve_stage-requires-clause-passes g c κs within =
    let long = openings_long g.S.Store c.args.databases.items c.in_ok-stage.stage.shared.openings c.in_ok-stage.ensures.read in
    c.in_ok-stage.ensures.passes ∙ ap (λ n. new_passes n MAX_SHARED) (sym long)

pub returns-clause-legal : goal.returns-clause-legal
returns-clause-legal g c = c.in_ok-audit.ensures.legal c.args.databases.items c.in_ok-stage.ensures.read
