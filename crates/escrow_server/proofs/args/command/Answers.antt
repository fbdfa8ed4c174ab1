use Rattle.std.proofs.Common.{◌≡◌, ◌∙◌, ap, ap₂}
use Rattle.std.proofs.lemmas.Result.{IfOk-weaker}
use Rattle.clap.specs.Words.{app_of, with_rule}
use Rattle.clap.specs.Simple.{app_of_fields}
use Rattle.escrow_server.specs.Args.{with_version}
use Rattle.escrow_server.proofs.args.command.Goals as goal

pub returns : goal.returns
returns c =
    let texts_are : app_of c.after_help.result ≡ app_of c.version.result =
    ap app_of_fields c.after_help.ensures ∙ ap app_of_fields c.about.ensures ∙ ap app_of_fields c.override_usage.ensures in
    let versioned : app_of c.version.result ≡ with_version (app_of c.new.result) = ap app_of_fields c.version.ensures in
    let with_mode = c.in_ok-arg.ensures.shape c.mode_arg.ensures.local ∙ ap₂ with_rule (texts_are ∙ versioned ∙ ap with_version c.new.ensures.app) c.mode_arg.ensures.rule in
    let with_store = c.in_ok-arg-2.ensures.shape c.store_arg.ensures.local ∙ ap₂ with_rule with_mode c.store_arg.ensures.rule in
    let with_databases = c.in_ok-arg-3.ensures.shape c.databases_arg.ensures.local ∙ ap₂ with_rule with_store c.databases_arg.ensures.rule in
    IfOk-weaker c.arg-4.result _ _ (λ command added. added.shape c.sessions_arg.ensures.local ∙ ap₂ with_rule with_databases c.sessions_arg.ensures.rule) c.arg-4.ensures
