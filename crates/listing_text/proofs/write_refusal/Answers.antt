use Rattle.std.proofs.Common.{rules}
use Rattle.text.proofs.Puts.{puts_written}
use Rattle.listing_text.proofs.Lines.{put-refusal-of}
use Rattle.listing_text.proofs.write_refusal.Goals as goal

pub returns : goal.returns
returns c =
    puts_written c.new-writer.ensures.out c.new-writer.ensures.at
    (put-refusal-of _ _ c.put_word.ensures c.put_decimal.ensures c.put_word-2.ensures c.put_decimal-2.ensures c.put_word-3.ensures) (search rules)
