use Rattle.lt_locktree.proofs.EndingLaws.{chain_holds_buffer, laid_buffer_commits, who_ends_buffer, held_ask_ends_buffer, granted_ask_ends_buffer, free_ends_buffer, join_ends_buffer}
use Rattle.lt_locktree.proofs.laws.buffers_are_laid_out.Goals as goal

pub returns-clause-laid : goal.returns-clause-laid
returns-clause-laid c = laid_buffer_commits

pub returns-clause-who : goal.returns-clause-who
returns-clause-who c = who_ends_buffer

pub returns-clause-held : goal.returns-clause-held
returns-clause-held c = held_ask_ends_buffer

pub returns-clause-granted : goal.returns-clause-granted
returns-clause-granted c = granted_ask_ends_buffer

pub returns-clause-freed : goal.returns-clause-freed
returns-clause-freed c = free_ends_buffer

pub returns-clause-joined : goal.returns-clause-joined
returns-clause-joined c = join_ends_buffer

pub returns-clause-chain : goal.returns-clause-chain
returns-clause-chain c = chain_holds_buffer
