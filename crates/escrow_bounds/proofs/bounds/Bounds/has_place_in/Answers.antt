use Rattle.std.specs.Prelude.{bytes_eq}
use Rattle.std.specs.List.{list_any}
use Rattle.std.specs.Map.{keys_of}
use Rattle.std.proofs.Common.{ap, ◌∙◌, rules, tests}
use Rattle.std.proofs.lemmas.Iterator.Consumers.{YieldsList-from_rest}
use Rattle.std.proofs.lemmas.Iterator.Search.{any_from_yields_List}
use Rattle.escrow_num.specs.declared.value.RowName.{RowName}
use Rattle.escrow_bounds.specs.Bounds.{Bounds}
use Rattle.escrow_bounds.proofs.Counting.{any_key}
use Rattle.escrow_bounds.proofs.bounds.Bounds.has_place_in.Goals as goal

pub returns : goal.returns
returns c =
    let table = c.args.table in
    let places : Bounds = c.self.inside.places.entries in
    any_from_yields_List (λ (row : RowName). bytes_eq row.table table) _ _ _ c.any.ensures.ran (YieldsList-from_rest (keys_of places) c.keys.ensures.rest) (λ x b q k. search (rules, tests))
    ∙ any_key table places
    ∙ ap (λ (held : Bounds). list_any (λ p. bytes_eq p.0.table table) held) c.self.view_is
