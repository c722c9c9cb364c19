use Rattle.conf_file.proofs.make.MakeConf.layers.Goals as goal

pub returns : goal.returns
returns c = λ i. record {
  global_set = c.in_ok-words_at.ensures i;
  global_unset = c.in_ok-words_at-2.ensures i;
  port_set = c.in_ok-port_words.ensures i;
  port_unset = c.in_ok-port_words-2.ensures i;
  file_set = c.in_ok-words_at-3.ensures i;
  file_unset = c.in_ok-words_at-4.ensures i;
}
