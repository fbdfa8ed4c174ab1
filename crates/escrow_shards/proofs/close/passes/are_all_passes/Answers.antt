use Rattle.escrow_shards.proofs.close.passes.are_all_passes.Goals as goal

pub returns-then-are_passes_of : goal.returns-then-are_passes_of
returns-then-are_passes_of c = (
  (λ t. record { each = λ d k below low high. c.are_each_once.ensures.0 t d below k low high; none_else = c.are_passes_of.ensures.0 c.if-are_passes_of.true }),
  (λ all. c.are_each_once.ensures.1 (λ d below k low high. all.each d k below low high)),
)
