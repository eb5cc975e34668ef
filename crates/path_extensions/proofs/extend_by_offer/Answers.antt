-- `path_extensions::extend_by_offer` meets its contract.
use Rattle.std.proofs.Common.{refl}
use Rattle.path_extensions.specs.Offer.{offer-refused, offer-asks, offer-made}
use Rattle.path_extensions.proofs.extend_by_offer.Goals as goal

pub returns-in_default : goal.returns-in_default
returns-in_default c = offer-refused c.requires _ (rw c.unwrap_err.ensures at c.log_penalty-p.ensures) refl

pub extend_with_edges-requires : goal.extend_with_edges-requires
extend_with_edges-requires c = offer-asks c.requires c.in-Ok.ensures

pub returns : goal.returns
returns c = offer-made c.requires c.in-Ok.ensures c.extend_with_edges.ensures
