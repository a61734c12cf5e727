use Rattle.dbe_item.proofs.LawsOpened.{opens_once}
use Rattle.dbe_item.proofs.laws.opens_to_one.Goals as goal

pub returns : goal.returns
returns x = record {
  item = λ c row a b i j p q. (opens_once c row a b i j p q).0;
  place = λ c row a b i j p q. (opens_once c row a b i j p q).1;
}
