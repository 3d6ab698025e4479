use Rattle.mu_num.proofs.Lowest.{lowest_terms, lowest_only}
use Rattle.mu_num.proofs.number_laws.lowest_terms_are_right.Goals as goal

pub returns : goal.returns
returns c = record {
  positive = λ a h. (lowest_terms a h).positive;
  value = λ a h. (lowest_terms a h).value;
  coprime = λ a h. (lowest_terms a h).coprime;
  only = lowest_only;
}
