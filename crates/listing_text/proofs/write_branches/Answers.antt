use Rattle.std.proofs.Common.{rules}
use Rattle.text.proofs.Puts.{puts_written}
use Rattle.listing_text.proofs.Lines.{put-branches-of}
use Rattle.listing_text.proofs.write_branches.Goals as goal

pub returns : goal.returns
returns c =
    puts_written c.new-writer.ensures.out c.new-writer.ensures.at
    (put-branches-of _ c.put_word.ensures c.put_decimal.ensures c.put_word-2.ensures c.put_entries.ensures) (search rules)
