-- `wire::put_header`. The words in order. Assumes nothing.
use Rattle.wire.specs.Words.{header_words}
use Rattle.wire.proofs.Reading.{mark-three}
use Rattle.wire.proofs.put_header.Goals as goal

pub returns : goal.returns
unfolding header_words
returns c =
    rw (
      c.flag_word-stale.ensures,
      c.flag_word-full.ensures,
      c.mark_words-m.ensures,
      mark-three,
    )
