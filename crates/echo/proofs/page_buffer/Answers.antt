-- `page_buffer`: its length by the law; to evaluate it would walk all bytes.
use Rattle.std.proofs.Common.{ℕ, sym}
use lib.ListN.{length-replicate}
use Rattle.echo.proofs.page_buffer.Goals as goal

pub returns : goal.returns
returns c = sym (length-replicate {A = ℕ} 524576 0)
