use Rattle.tsb_walk.proofs.PageRepresenting.{none_bad}
use Rattle.tsb_walk.proofs.laws.no_page_is_bad_where_the_root_stands.Goals as goal

pub returns : goal.returns
returns c = record { good = λ shown s all root key stamp page represents_all is. none_bad shown s all root key stamp page is represents_all }
