pub mod AreaLemmas
pub mod CountLemmas
pub mod ExtremeLemmas
pub mod LawLemmas
pub mod RisingLemmas
pub mod SumLemmas
