-- The price of a lie, proved.
use Rattle.field.proofs.Enumerated.{each_once}
use Rattle.reduction.specs.Price.{Price}
use Rattle.reduction.proofs.Priced.{price_of_a_lie}
use Rattle.reduction.proofs.NotVacuous.{not_vacuous}
use Rattle.reduction.proofs.WorkedPrices.{worked_prices}

pub price : Price
price = record { elements = each_once; lies = price_of_a_lie; not_vacuous = not_vacuous; worked = worked_prices }
