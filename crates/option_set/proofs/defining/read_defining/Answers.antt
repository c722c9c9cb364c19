use Rattle.option_set.proofs.defining.read_defining.Goals as goal

pub returns : goal.returns
returns c = λ i. record {
  alone = c.in_ok-words_at.ensures i;
  any = c.in_ok-groups_in.ensures i;
  single = c.in_ok-groups_in-2.ensures i;
  radio = c.in_ok-groups_in-3.ensures i;
  multi = c.in_ok-groups_in-4.ensures i;
}
