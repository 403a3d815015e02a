use Rattle.warc_frame.proofs.front.length_value.Goals as goal

pub returns : goal.returns
returns g c = rw c.as_bytes.ensures.value at c.only_value.ensures
