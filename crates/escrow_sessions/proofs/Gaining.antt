-- A pass gains exactly what was served.
use Rattle.std.proofs.Common.{◌≡◌, List, [], ◌∷◌, ◌++◌, refl, sym, ap, ◌∙◌, append_assoc}
use Rattle.std.proofs.lemmas.List.{append-nil, map-append}
use Rattle.escrow_statement.specs.declared.statement.Request.{Request}
use Rattle.escrow_statement.specs.declared.statement.Request.TheVariants as request
use Rattle.escrow_statement.specs.declared.statement.Statement.{Statement}
use Rattle.escrow_machine.specs.declared.reply.Reply.{Reply}
use Rattle.escrow_shards.specs.Pass.{Pass}
use Rattle.escrow_shards.specs.declared.pass.Answer.TheVariants.{Served, Unserved}
use Rattle.escrow_sessions.specs.declared.feed.Given.{Given}
use Rattle.escrow_sessions.specs.declared.feed.Given.TheVariants as given
use Rattle.escrow_sessions.specs.Laws.{calls_in, served_in, Gained}
use Rattle.escrow_sessions.specs.Serving.{Serves}

gained_none : (old : Pass) → Gained old old []
gained_none old = record { database = refl; session = refl; calls = sym (append-nil (calls_in old.receipts)) }

gained_same : (old mid new : Pass) (served : List (Statement × Reply)) → mid ≡ old → Gained mid new served → Gained old new served
gained_same old mid new served same rest = rw (← same) rest

gained_one : (old mid new : Pass) (asked : Statement) (reply : Reply) (served : List (Statement × Reply)) → Gained old mid ((asked, reply) ∷ []) → Gained mid new served → Gained old new ((asked, reply) ∷ served)
gained_one old mid new asked reply served first rest = record {
  database = rest.database ∙ first.database;
  session = rest.session ∙ first.session;
  calls = rest.calls ∙ ap (λ cs. cs ++ served) first.calls ∙ append_assoc (calls_in old.receipts) ((asked, reply) ∷ []) served;
}

pub gained : (old new : Pass) (requests : List Request) (answers : List Given) → Serves old requests answers new → Gained old new (served_in requests answers)
gained old new [] [] same = rw same (gained_none old)
gained old new (r ∷ rs) [] same = rw same (gained_none old)
gained old new [] (g ∷ gs) none = absurd none
gained old new (request.Statement asked ∷ rs) (given.Reply (Served reply) ∷ gs) serves =
    let next = serves.0 in let answered = serves.1.0 in let more = answered.1 in
    gained_one old next new asked reply (served_in rs gs)
    (record {
      database = ap (λ s. s.database) more.1;
      session = ap (λ s. s.session) more.1;
      calls = ap (λ s. calls_in s.receipts) more.1 ∙ map-append (λ r. (r.statement, r.reply)) old.receipts (record { number = more.0; statement = asked; reply = reply } ∷ []);
    })
    (gained next new rs gs serves.1.1)
gained old new (request.Statement asked ∷ rs) (given.Reply (Unserved r) ∷ gs) serves = gained_same old serves.0 new (served_in rs gs) serves.1.0.1 (gained serves.0 new rs gs serves.1.1)
gained old new (request.Statement asked ∷ rs) (given.Totals totals ∷ gs) serves = absurd serves.1.0
gained old new (request.Statistics ∷ rs) (given.Totals totals ∷ gs) serves = gained_same old serves.0 new (served_in rs gs) serves.1.0.1 (gained serves.0 new rs gs serves.1.1)
gained old new (request.Statistics ∷ rs) (given.Reply answer ∷ gs) serves = absurd serves.1.0
