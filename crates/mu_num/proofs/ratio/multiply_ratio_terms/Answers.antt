use Rattle.mu_num.proofs.Kept.{kept_product, kept_product_size}
use Rattle.mu_num.proofs.ratio.multiply_ratio_terms.Goals as goal

pub returns-clause-value : goal.returns-clause-value
returns-clause-value c = kept_product c.args.a c.args.b c.requires.a c.requires.b

pub returns-clause-size : goal.returns-clause-size
returns-clause-size c = kept_product_size c.args.a c.args.b c.requires.a c.requires.b
