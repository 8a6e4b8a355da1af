-- `plan_picture::picture::put_sentence` meets its contract.
use Rattle.text.specs.Template.{bytes_of}
use Rattle.plan_picture.specs.Picture.{sentence_of}
use Rattle.plan_picture.proofs.picture.put_sentence.Goals as goal

pub returns : goal.returns
unfolding sentence_of bytes_of
returns c = rw c.used_share-share.ensures at c.put_template.ensures
