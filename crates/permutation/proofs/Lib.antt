-- The laws that the functions' proofs rest on, each file below those that it uses; `Rules` says what the rules mean, `Meanings` what the cycle
-- lengths do.
pub mod Divisors
pub mod Products
pub mod Faults
pub mod Cycles
pub mod Lengths
pub mod Walks
pub mod Striking
pub mod Multiples
pub mod Commuting
pub mod Rules
pub mod Meanings
